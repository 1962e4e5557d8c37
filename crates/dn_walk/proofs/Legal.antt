-- A net breaks no rule exactly where it is legal.
use Rattle.std.proofs.Common.{◌≡◌, ℕ, ◌≤◌, inl, inr, Bool, true, false, if◌then◌else◌, nat_lt, List, [], ◌∷◌, length, Option, Some, None, option_map, IsTrue, refl, sym, ap, ◌∙◌, subst, arith}
use Rattle.std.proofs.lemmas.Bool.{ltb-false, le-ltb, cases_lt}
use Rattle.dn_net.specs.declared.node.Name.{Name}
use Rattle.dn_net.specs.declared.node.NodeDecl.{NodeDecl}
use Rattle.dn_net.specs.Chain.{Member}
use Rattle.dn_net.specs.Decode.{step_limit, steps, Step}
use Rattle.dn_net.specs.Rules.{KeepsNodeRules, node_fault}
use Rattle.dn_net.specs.Units.{has_plain_units}
use Rattle.dn_net.specs.UnitRules.{Fork, least_fork, first_chain, unit_numbers, IsShallow, NoFork, IsLeastFork}
use Rattle.dn_net.specs.Walks.{live_walks}
use Rattle.dn_net.specs.WalkRules.{Broken, is_wide, has_loop, is_deep, has_chain, fork_broken, or_else, counted_length, shortest_cycle, cycle_names, path_names, cycle_or_path, endless_fault, unit_fault, walk_limit, walk_fault, Along, IsShortestCycle, IsLeastPath}
use Rattle.dn_net.specs.Legal.{KeepsEndlessRules, KeepsUnitRules, IsLegalNet, LegalBreaksNoRule}
use Rattle.dn_net.proofs.Chains.{chain_front, chain_round}
use Rattle.dn_walk.proofs.Endless.{is_wide_net, endless_fault_is, no_fault_is_shallow}
use Rattle.dn_net.proofs.Firsts.{shortest_cycle_is_shortest}
use Rattle.dn_walk.proofs.Forks.{fork_is_least, fork_there}
use Rattle.dn_net.proofs.Kept.{each_kept, none_broken}
use Rattle.dn_walk.proofs.UnitRows.{chain_is_first, number_of_unit, no_chain}
use Rattle.dn_net.proofs.Ways.{along_chain, path_is_least}

unit_fault_is : (net : List NodeDecl) → unit_fault net ≡ or_else (option_map fork_broken (least_fork net)) (option_map has_chain (first_chain net))
unfolding unit_fault
unit_fault_is net = refl

-- a broken rule of the first part is the one that is broken
pub first_part : (net : List NodeDecl) (b : Broken) → endless_fault net ≡ Some b → walk_fault net ≡ Some b
first_part net b e = ap (λ o. or_else o (unit_fault net)) e

-- where none is, that of the second part is
pub second_part : (net : List NodeDecl) → endless_fault net ≡ None → walk_fault net ≡ unit_fault net
second_part net e = ap (λ o. or_else o (unit_fault net)) e

-- of two values neither is there where one of them or else the other is not
neither : {A : Type 0} (o p : Option A) → or_else o p ≡ None → (o ≡ None) × (p ≡ None)
neither None p e = (refl, e)
neither (Some a) p e = cc

no_map : {A B : Type 0} (f : A → B) (o : Option A) → option_map f o ≡ None → o ≡ None
no_map f None e = refl
no_map f (Some a) e = cc

-- a fork is the rule of the second part that is broken
pub fork_part : (net : List NodeDecl) (f : Fork) → least_fork net ≡ Some f → unit_fault net ≡ Some (fork_broken f)
fork_part net f e = unit_fault_is net ∙ ap (λ o. or_else (option_map fork_broken o) (option_map has_chain (first_chain net))) e

-- and where there is none a chain
pub chain_part : (net : List NodeDecl) → least_fork net ≡ None → unit_fault net ≡ option_map has_chain (first_chain net)
chain_part net e = unit_fault_is net ∙ ap (λ o. or_else (option_map fork_broken o) (option_map has_chain (first_chain net))) e

-- a net with no unit breaks no rule of the second part
pub no_units : (net : List NodeDecl) → unit_numbers net ≡ [] → unit_fault net ≡ None
no_units net e = chain_part net (no_fork (least_fork net) refl) ∙ ap (option_map has_chain) (no_chain net e)
  where
    no_fork : (o : Option Fork) → least_fork net ≡ o → o ≡ None
    no_fork None f = refl
    no_fork (Some f) g = absurd (subst (λ us. Member f.unit us) e (number_of_unit net f.unit (fork_there net f g).is_unit))

few_walks : (net : List NodeDecl) → endless_fault net ≡ None → length (live_walks net step_limit) ≤ walk_limit
few_walks net h = by (shortest_cycle net) refl (is_wide_net net) refl (sym (endless_fault_is net) ∙ h)
  where
    by : (o : Option ℕ) → shortest_cycle net ≡ o → (b : Bool) → is_wide_net net ≡ b → (if b then Some is_wide else cycle_or_path net (shortest_cycle net)) ≡ None → length (live_walks net step_limit) ≤ walk_limit
    by o e true f h = cc
    by (Some c) e false f h = let g : Some (has_loop (cycle_names net c)) ≡ None = sym (ap (cycle_or_path net) e) ∙ h in cc
    by None e false f h = ltb-false walk_limit (length (live_walks net step_limit)) (sym (ap (λ o. nat_lt walk_limit (length (live_walks net (counted_length o)))) e) ∙ f)

endless_kept : (net : List NodeDecl) → KeepsNodeRules net → endless_fault net ≡ None → KeepsEndlessRules net
endless_kept net rules e = record { few = few_walks net e; shallow = no_fault_is_shallow net rules e }

-- where no rule on units is broken, they are kept
units_kept : (net : List NodeDecl) → KeepsNodeRules net → IsShallow net → unit_fault net ≡ None → KeepsUnitRules net
units_kept net rules shallow h = record { no_fork = no_fork; rows = (chain_is_first net shallow).1 none.1 }
  where
    none : (least_fork net ≡ None) × (first_chain net ≡ None)
    none =
        let n = neither (option_map fork_broken (least_fork net)) (option_map has_chain (first_chain net)) (sym (unit_fault_is net) ∙ h) in
        (no_map fork_broken (least_fork net) n.0, no_map has_chain (first_chain net) n.1)

    no_fork : NoFork net
    no_fork x s is r = elim (cases_lt 1 (length (steps net x))) [
      | inl l ↦ absurd ((fork_is_least net rules shallow).1 none.0 x s.node (record { several = l; reaches = (s, refl, is, r) }))
      | inr l ↦ l
    ]

-- in a shallow net no name comes back, and no path is long
no_cycle : (net : List NodeDecl) → KeepsNodeRules net → KeepsEndlessRules net → shortest_cycle net ≡ None
no_cycle net rules kept = by (shortest_cycle net) refl
  where
    by : (o : Option ℕ) → shortest_cycle net ≡ o → o ≡ None
    by None e = refl
    by (Some c) e =
        let s : IsShortestCycle net c = (shortest_cycle_is_shortest net rules).0 c e in
        let r = chain_round (Step net) c s.cycle.0 s.least s.cycle.1 step_limit in
        let f = chain_front (Step net) step_limit r.0 s.cycle.0 s.cycle.0 r.1 r.2 in
        absurd (kept.shallow s.cycle.0 f.0 f.1)

no_path : (net : List NodeDecl) → KeepsNodeRules net → KeepsEndlessRules net → path_names net step_limit ≡ None
no_path net rules kept = by (path_names net step_limit) refl
  where
    never : (xs : List Name) (y : Name) → Along net step_limit xs y → path_names net step_limit ≡ None
    never [] y a = absurd a
    never (x ∷ xs) y a = absurd (kept.shallow x y (along_chain net step_limit x xs y a))

    by : (o : Option (List Name)) → path_names net step_limit ≡ o → path_names net step_limit ≡ None
    by None e = e
    by (Some xs) e = let l : IsLeastPath net step_limit xs = (path_is_least net rules step_limit).0 xs e in never xs l.along.0 l.along.1

endless_unbroken : (net : List NodeDecl) → KeepsNodeRules net → KeepsEndlessRules net → endless_fault net ≡ None
endless_unbroken net rules kept =
    endless_fault_is net
    ∙ ap (λ o. if nat_lt walk_limit (length (live_walks net (counted_length o))) then Some is_wide else cycle_or_path net o) (no_cycle net rules kept)
    ∙ ap (λ b. if b then Some is_wide else cycle_or_path net None) (le-ltb walk_limit (length (live_walks net step_limit)) kept.few)
    ∙ ap (λ p. option_map is_deep p) (no_path net rules kept)

-- where the rules on units are kept, none is broken
units_unbroken : (net : List NodeDecl) → KeepsNodeRules net → IsShallow net → KeepsUnitRules net → unit_fault net ≡ None
units_unbroken net rules shallow kept =
    chain_part net (no_fork (least_fork net) refl) ∙ ap (option_map has_chain) (no_chain (first_chain net) refl)
  where
    no_fork : (o : Option Fork) → least_fork net ≡ o → o ≡ None
    no_fork None e = refl
    no_fork (Some f) e =
        let l : IsLeastFork net f.name f.unit = (fork_is_least net rules shallow).0 f e in
        let r = l.fork.reaches in
        let several = l.fork.several in
        let one = kept.no_fork f.name r.0 r.2 r.3 in
        absurd (omega arith)

    no_chain : (o : Option (List ℕ)) → first_chain net ≡ o → o ≡ None
    no_chain None e = refl
    no_chain (Some us) e = elim ((chain_is_first net shallow).0 us e) [
      | inl f ↦ (let four = f.four in let short = kept.rows.short us f.row in absurd (omega arith))
      | inr f ↦ (let large = f.row.large in let small = kept.rows.small us f.row.row in absurd (omega arith))
    ]

pub legal_breaks_no_rule : LegalBreaksNoRule
legal_breaks_no_rule net is_net closed = (legal, unbroken)
  where
    legal : (node_fault net ≡ None) × IsTrue (has_plain_units net) × (walk_fault net ≡ None) → IsLegalNet net
    legal h =
        let rules : KeepsNodeRules net = record { closed = closed; each = each_kept net h.0 } in
        let none = neither (endless_fault net) (unit_fault net) h.2 in
        let walks = endless_kept net rules none.0 in
        record { is_net = is_net; nodes = rules; shapes = h.1; walks = walks; units = units_kept net rules walks.shallow none.1 }

    unbroken : IsLegalNet net → (node_fault net ≡ None) × IsTrue (has_plain_units net) × (walk_fault net ≡ None)
    unbroken l = (
      none_broken net l.nodes.each,
      l.shapes,
      second_part net (endless_unbroken net l.nodes l.walks) ∙ units_unbroken net l.nodes l.walks.shallow l.units,
    )
