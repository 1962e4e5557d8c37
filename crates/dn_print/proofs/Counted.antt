-- Nodes that are few enough are within the limits one after another, and the other way round.
use Rattle.std.proofs.Common.{◌≡◌, ◌∙◌, ap, sym, refl, subst, ℕ, ◌+◌, ◌≤◌, Bool, true, false, cond, ◌&&◌, if◌then◌else◌, nat_lt, List, [], ◌∷◌, ◌++◌, length, length-append, Option, Some, None, arith, append_assoc, append-nil, ltb-false, le-ltb}
use Rattle.std.proofs.lemmas.List.{map-append}
use Rattle.dn_net.specs.Decode.{is_agent, is_unit}
use Rattle.dn_module.specs.declared.draft.Draft.{Draft}
use Rattle.dn_module.specs.Drafts.{names, agents_among, units_among, parts_of_draft, all_parts, limit_passed}
use Rattle.dn_module.proofs.Limits.{parts_more}
use Rattle.dn_print.proofs.Grown.{Fits, Grown}
use Rattle.dn_print.proofs.Places.{Distinct, not_before, distinct_more, total, total_least, total_more, total_map}

-- what a node adds to the agents and to the units
abbrev pub one_agent : Draft → ℕ
one_agent d = cond (is_agent d.role) 1 0

abbrev pub one_unit : Draft → ℕ
one_unit d = cond (is_unit d.role) 1 0

parts_are : (ds : List Draft) → all_parts ds ≡ total parts_of_draft 0 ds
parts_are ds = total_map (λ n. n) parts_of_draft parts_of_draft (λ d. refl) 0 ds

names_more : (acc : List Draft) (d : Draft) → names (acc ++ d ∷ []) ≡ names acc ++ d.name ∷ []
names_more acc d = map-append (λ (d : Draft). d.name) acc (d ∷ [])

names_moved : (acc ds : List Draft) (d : Draft) → names (acc ++ d ∷ []) ++ names ds ≡ names acc ++ d.name ∷ names ds
names_moved acc ds d = ap (λ (l : List (List ℕ)). l ++ names ds) (names_more acc d) ∙ append_assoc (names acc) (d.name ∷ []) (names ds)

-- four limits that are not passed, and one node more
few_more : (b : Bool) (n most : ℕ) → n + cond b 1 0 ≤ most → (b && nat_lt most (n + 1)) ≡ false
few_more false n most l = refl
few_more true n most l = le-ltb most (n + 1) l

limit_none : (acc : List Draft) (d : Draft) → length acc + 1 ≤ 1024 → agents_among acc + one_agent d ≤ 64 → units_among acc + one_unit d ≤ 64 → all_parts acc + parts_of_draft d ≤ 16384 → limit_passed acc d ≡ None
limit_none acc d l a u p = rw (le-ltb 1024 (length acc + 1) l, few_more (is_agent d.role) (agents_among acc) 64 a, few_more (is_unit d.role) (units_among acc) 64 u, le-ltb 16384 (all_parts acc + parts_of_draft d) p) refl

pub grown_by : (acc ds : List Draft) → Distinct (names acc ++ names ds) → length acc + length ds ≤ 1024 → total one_agent (agents_among acc) ds ≤ 64 → total one_unit (units_among acc) ds ≤ 64 → total parts_of_draft (all_parts acc) ds ≤ 16384 → Grown acc ds
grown_by acc [] differ l a u p = tt
grown_by acc (d ∷ ds) differ l a u p =
    let n = length-append acc (d ∷ []) in
    let x = total_least one_agent (agents_among acc + one_agent d) ds in
    let y = total_least one_unit (units_among acc + one_unit d) ds in
    let z = total_least parts_of_draft (all_parts acc + parts_of_draft d) ds in
    let fits : Fits acc d = (not_before (names acc) (names ds) d.name differ, limit_none acc d (omega (arith, l)) (omega (arith, x, a)) (omega (arith, y, u)) (omega (arith, z, p))) in
    (fits, grown_by (acc ++ d ∷ []) ds (subst Distinct (sym (names_moved acc ds d)) differ) (omega (arith, n, l)) (subst (λ (k : ℕ). total one_agent k ds ≤ 64) (sym (total_more one_agent 0 acc d)) a) (subst (λ (k : ℕ). total one_unit k ds ≤ 64) (sym (total_more one_unit 0 acc d)) u) (subst (λ (k : ℕ). total parts_of_draft k ds ≤ 16384) (sym (parts_more acc d)) p))

-- what one more node does not pass
record Passes (acc : List Draft) (d : Draft) : Type 0 where
  agents : agents_among acc ≤ 64 → agents_among acc + one_agent d ≤ 64
  units : units_among acc ≤ 64 → units_among acc + one_unit d ≤ 64
  parts : all_parts acc + parts_of_draft d ≤ 16384

few_by : (b : Bool) (n most : ℕ) → (b && nat_lt most (n + 1)) ≡ false → n ≤ most → n + cond b 1 0 ≤ most
few_by false n most e l = omega (arith, l)
few_by true n most e l = ltb-false most (n + 1) e

passes : (acc : List Draft) (d : Draft) → limit_passed acc d ≡ None → Passes acc d
passes acc d e = by (nat_lt 1024 (length acc + 1)) (is_agent d.role && nat_lt 64 (agents_among acc + 1)) refl (is_unit d.role && nat_lt 64 (units_among acc + 1)) refl (nat_lt 16384 (all_parts acc + parts_of_draft d)) refl e
  where
    by : (k a : Bool) → (is_agent d.role && nat_lt 64 (agents_among acc + 1)) ≡ a → (u : Bool) → (is_unit d.role && nat_lt 64 (units_among acc + 1)) ≡ u → (p : Bool) → nat_lt 16384 (all_parts acc + parts_of_draft d) ≡ p → cond {A = Option ℕ} k (Some 1024) (if a then Some 64 else (if u then Some 64 else (if p then Some 16384 else None))) ≡ None → Passes acc d
    by true a f u g p h q = cc
    by false true f u g p h q = cc
    by false false f true g p h q = cc
    by false false f false g true h q = cc
    by false false f false g false h q = record {
      agents = few_by (is_agent d.role) (agents_among acc) 64 f;
      units = few_by (is_unit d.role) (units_among acc) 64 g;
      parts = ltb-false 16384 (all_parts acc + parts_of_draft d) h;
    }

-- what nodes that were added one after another are together
pub record Counts (acc ds : List Draft) : Type 0 where
  pub differ : Distinct (names acc ++ names ds)
  pub agents : total one_agent (agents_among acc) ds ≤ 64
  pub units : total one_unit (units_among acc) ds ≤ 64
  pub parts : total parts_of_draft (all_parts acc) ds ≤ 16384

pub counted : (acc ds : List Draft) → Grown acc ds → Distinct (names acc) → agents_among acc ≤ 64 → units_among acc ≤ 64 → all_parts acc ≤ 16384 → Counts acc ds
counted acc [] h differ a u p = record { differ = subst Distinct (sym (append-nil (names acc))) differ; agents = a; units = u; parts = p }
counted acc (d ∷ ds) h differ a u p =
    let w = passes acc d h.0.1 in
    let next = counted (acc ++ d ∷ []) ds h.1
    (subst Distinct (sym (names_more acc d)) (distinct_more (names acc) d.name differ h.0.0))
    (subst (λ (k : ℕ). k ≤ 64) (sym (total_more one_agent 0 acc d)) (w.agents a))
    (subst (λ (k : ℕ). k ≤ 64) (sym (total_more one_unit 0 acc d)) (w.units u))
    (subst (λ (k : ℕ). k ≤ 16384) (sym (parts_more acc d)) w.parts) in
    record {
      differ = subst Distinct (names_moved acc ds d) next.differ;
      agents = subst (λ (k : ℕ). total one_agent k ds ≤ 64) (total_more one_agent 0 acc d) next.agents;
      units = subst (λ (k : ℕ). total one_unit k ds ≤ 64) (total_more one_unit 0 acc d) next.units;
      parts = subst (λ (k : ℕ). total parts_of_draft k ds ≤ 16384) (parts_more acc d) next.parts;
    }
