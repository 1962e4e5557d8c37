-- What a text comes to where it is refused.
use Rattle.std.proofs.Common.{◌≡◌, ◌∙◌, ap, sym, subst, Option, option_map, IfSome, Some, None, List, Result, Ok, Err, IfOk, refl, ℕ}
use Rattle.std.proofs.lemmas.Option.{same_Some}
use Rattle.dn_base.specs.Answers.{Answers, Checks}
use Rattle.dn_parse.specs.declared.reader.ParseFault.{ParseFault}
use Rattle.dn_parse.specs.Tree.{Tree}
use Rattle.dn_parse.specs.Whole.{TextFault, text_reading}
use Rattle.dn_parse.specs.Faults.{parse_fault_view}
use Rattle.dn_net.specs.Rules.{BrokenNode, node_fault}
use Rattle.dn_net.specs.WalkRules.{Broken, walk_fault}
use Rattle.dn_kind.specs.Kind.{Meaning}
use Rattle.dn_kind.specs.Units.{shape_fault}
use Rattle.dn_scope.specs.declared.fault.ExpandFault.{ExpandFault}
use Rattle.dn_module.specs.Expand.{Expansion, expansion_of}
use Rattle.dn_scope.specs.Faults.{ExpansionFault, expand_fault_view}
use Rattle.dn_tool.specs.declared.refusal.Refusal.{Refusal}
use Rattle.dn_tool.specs.Refused.{refusal_of, text_refusal, expand_refusal, node_refusal, unit_refusal, walk_refusal}
use Rattle.dn_tool.specs.Compiled.{Compilation, broken_rule, by_node_rules, by_unit_rule, by_walk_rules, compilation, expansion_compilation, reading_compilation, with_refusal}

-- the reader refused it
pub text_refused : {E : Type 0} (kinds : List Meaning) (text : List ℕ) (e : ParseFault) (r : Result Refusal E) → IfSome (parse_fault_view e) (λ f. text_reading text ≡ Err f) → IfOk r (λ x. option_map text_refusal (parse_fault_view e) ≡ Some x) → IfOk r (λ x. with_refusal (compilation kinds text) ≡ Err x)
unfolding compilation
text_refused kinds text e (Ok x) read is = go (parse_fault_view e) read is
  where
    go : (o : Option TextFault) → IfSome o (λ f. text_reading text ≡ Err f) → option_map text_refusal o ≡ Some x → with_refusal (reading_compilation kinds (text_reading text)) ≡ Err x
    go None read is = cc
    go (Some f) read is = let same : text_refusal f ≡ x = cc in ap (λ t. with_refusal (reading_compilation kinds t)) read ∙ ap (λ q. Err q) same
text_refused kinds text e (Err y) read is = tt

-- it expands to no net
pub expansion_refused : {E : Type 0} (kinds : List Meaning) (text : List ℕ) (tree : Tree) (e : ExpandFault) (r : Result Refusal E) → text_reading text ≡ Ok tree → IfSome (expand_fault_view e) (λ f. expansion_of kinds tree ≡ Err f) → IfOk r (λ x. option_map expand_refusal (expand_fault_view e) ≡ Some x) → IfOk r (λ x. with_refusal (compilation kinds text) ≡ Err x)
unfolding compilation
expansion_refused kinds text tree e (Ok x) read fault is = go (expand_fault_view e) fault is
  where
    go : (o : Option ExpansionFault) → IfSome o (λ f. expansion_of kinds tree ≡ Err f) → option_map expand_refusal o ≡ Some x → with_refusal (reading_compilation kinds (text_reading text)) ≡ Err x
    go None fault is = cc
    go (Some f) fault is = let same : expand_refusal f ≡ x = cc in ap (λ t. with_refusal (reading_compilation kinds t)) read ∙ ap (λ t. with_refusal (expansion_compilation kinds t)) fault ∙ ap (λ q. Err q) same
expansion_refused kinds text tree e (Err y) read fault is = tt

-- what its net comes to is what it comes to
outcome_compiled : (kinds : List Meaning) (text : List ℕ) (tree : Tree) (o : Expansion) → text_reading text ≡ Ok tree → expansion_of kinds tree ≡ Ok o → expansion_compilation kinds (Ok o) ≡ compilation kinds text
unfolding compilation
outcome_compiled kinds text tree o read made = sym (ap (reading_compilation kinds) read ∙ ap (expansion_compilation kinds) made)

-- so what answers the expansion answers the text
pub expanded_answer : {X E : Type 0} (view : X → Expansion) (refused : E → Option Refusal) (r : Result X E) (kinds : List Meaning) (text : List ℕ) (tree : Tree) (o : Expansion) → text_reading text ≡ Ok tree → expansion_of kinds tree ≡ Ok o → Answers view refused r (with_refusal (expansion_compilation kinds (Ok o))) → Answers view refused r (with_refusal (compilation kinds text))
expanded_answer view refused r kinds text tree o read made a = subst (λ (k : Compilation). Answers view refused r (with_refusal k)) (outcome_compiled kinds text tree o read made) a

-- a node breaks a rule
pub nodes_refused : {E : Type 0} (kinds : List Meaning) (o : Expansion) (v : Option BrokenNode) (r : Result Refusal E) → IfSome v (λ b. node_fault o.net ≡ Some b) → IfOk r (λ x. option_map (node_refusal o.net) v ≡ Some x) → IfOk r (λ x. with_refusal (expansion_compilation kinds (Ok o)) ≡ Err x)
nodes_refused kinds o None (Ok x) fault is = cc
nodes_refused kinds o (Some b) (Ok x) fault is = ap (λ b. with_refusal (by_node_rules kinds o b)) fault ∙ ap (λ q. Err q) (same_Some (node_refusal o.net b) x is)
nodes_refused kinds o v (Err y) fault is = tt

-- a unit breaks the rule on shapes
pub unit_refused : {E : Type 0} (kinds : List Meaning) (o : Expansion) (v : Option ℕ) (r : Result Refusal E) → node_fault o.net ≡ None → IfSome v (λ n. shape_fault kinds o.net ≡ Some n) → IfOk r (λ x. option_map (unit_refusal o.net) v ≡ Some x) → IfOk r (λ x. with_refusal (expansion_compilation kinds (Ok o)) ≡ Err x)
unit_refused kinds o None (Ok x) checked fault is = cc
unit_refused kinds o (Some n) (Ok x) checked fault is = ap (λ b. with_refusal (by_node_rules kinds o b)) checked ∙ ap (λ b. with_refusal (by_unit_rule o b)) fault ∙ ap (λ q. Err q) (same_Some (unit_refusal o.net n) x is)
unit_refused kinds o v (Err y) checked fault is = tt

-- a walk breaks a rule
pub walks_refused : {E : Type 0} (kinds : List Meaning) (o : Expansion) (v : Option Broken) (r : Result Refusal E) → node_fault o.net ≡ None → shape_fault kinds o.net ≡ None → IfSome v (λ b. walk_fault o.net ≡ Some b) → IfOk r (λ x. option_map (walk_refusal o.net) v ≡ Some x) → IfOk r (λ x. with_refusal (expansion_compilation kinds (Ok o)) ≡ Err x)
walks_refused kinds o None (Ok x) checked shaped fault is = cc
walks_refused kinds o (Some b) (Ok x) checked shaped fault is = ap (λ b. with_refusal (by_node_rules kinds o b)) checked ∙ ap (λ b. with_refusal (by_unit_rule o b)) shaped ∙ ap (λ b. with_refusal (by_walk_rules o b)) fault ∙ ap (λ q. Err q) (same_Some (walk_refusal o.net b) x is)
walks_refused kinds o v (Err y) checked shaped fault is = tt

-- what a text was compiled to, or refused for, is held against the first rule that it breaks
pub compiled_checks : {X E : Type 0} (view : X → Expansion) (refused : E → Option Refusal) (r : Result X E) (k : Compilation) → Answers view refused r (with_refusal k) → Checks refused r (option_map refusal_of (broken_rule k))
compiled_checks view refused (Ok x) (Ok o) a = refl
compiled_checks view refused (Ok x) (Err broken) a = cc
compiled_checks view refused (Err e) (Ok o) a = by (refused e) a
  where
    by : (f : Option Refusal) → IfSome f (λ r. with_refusal (Ok o) ≡ Err r) → IfSome f (λ r. option_map refusal_of (broken_rule (Ok o)) ≡ Some r)
    by None h = tt
    by (Some r) h = cc
compiled_checks view refused (Err e) (Err broken) a = by (refused e) a
  where
    by : (f : Option Refusal) → IfSome f (λ r. with_refusal (Err broken) ≡ Err r) → IfSome f (λ r. option_map refusal_of (broken_rule (Err broken)) ≡ Some r)
    by None h = tt
    by (Some r) h = cc

-- and a text that was compiled breaks none
pub compiled_legal : {X E : Type 0} (view : X → Expansion) (refused : E → Option Refusal) (r : Result X E) (k : Compilation) → Answers view refused r (with_refusal k) → IfOk r (λ x. broken_rule k ≡ None)
compiled_legal view refused (Ok x) (Ok o) a = refl
compiled_legal view refused (Ok x) (Err broken) a = cc
compiled_legal view refused (Err e) k a = tt
