-- The slots that are listed as shut out are exactly those that are.
use Rattle.std.proofs.Common.{◌≡◌, ◌∙◌, sym, ap, subst, refl, arith, ℕ, zero, suc, ◌+◌, ◌<◌, ◌≤◌, ◌⊎◌, inl, inr, Bool, true, false, ◌&&◌, not, if◌then◌else◌, List, [], ◌∷◌, ◌++◌, drop, Option, Some, None, is_some}
use Rattle.std.proofs.lemmas.Bool.{and_parts, and_from, cases_order}
use Rattle.std.proofs.lemmas.List.{drop-drop}
use Rattle.std.proofs.lemmas.Option.{same_Some}
use Rattle.dn_base.proofs.Members.{member_cases, member_left, member_right}
use Rattle.dn_net.specs.declared.node.NodeDecl.{NodeDecl}
use Rattle.dn_net.specs.declared.node.Unit.{Unit as UnitPart}
use Rattle.dn_net.specs.Chain.{Member}
use Rattle.dn_net.specs.Decode.{unit_at}
use Rattle.dn_kind.specs.declared.unit_kind.Record.{Record}
use Rattle.dn_kind.specs.Kind.{Meaning}
use Rattle.dn_kind.specs.Tables.{Held}
use Rattle.dn_tables.specs.Set.{first_words}
use Rattle.dn_image.specs.Image.{width_of}
use Rattle.dn_audit.specs.declared.report.Shut.{Shut}
use Rattle.dn_audit.specs.Records.{IsShutOut, ShutAreShutOut, has_gate, shut_from, shut_of_nodes, shut_of_unit, shut_slot}

abbrev made : ℕ → ℕ → Shut
made n q = record { unit = n; slot = q }

-- a slot of the unit that has its gate set and no record
record IsShutAt (width : ℕ) (ws : List ℕ) (records : ℕ → Option Record) (q : ℕ) : Type 0 where
  gate : has_gate width ws q ≡ true
  empty : records q ≡ None

-- it is one of so many slots from a first on
record IsShutIn (node width : ℕ) (ws : List ℕ) (records : ℕ → Option Record) (slot count n q : ℕ) : Type 0 where
  same : n ≡ node
  from : slot ≤ q
  below : q < slot + count
  shut : IsShutAt width ws records q

no_record : (o : Option Record) → not (is_some o) ≡ true → o ≡ None
no_record None e = refl
no_record (Some r) e = cc

empty_test : (o : Option Record) → o ≡ None → not (is_some o) ≡ true
empty_test o e = ap (λ (p : Option Record). not (is_some p)) e

module _ (node width : ℕ) (ws : List ℕ) (records : ℕ → Option Record) where
  -- one slot
  slot_in : (slot n q : ℕ) → Member (made n q) (shut_slot node width ws records slot) → (n ≡ node) × (slot ≡ q) × IsShutAt width ws records slot
  slot_in slot n q m = by (has_gate width ws slot && not (is_some (records slot))) refl m
    where
      by : (b : Bool) → (has_gate width ws slot && not (is_some (records slot))) ≡ b → Member (made n q) (if b then made node slot ∷ [] else []) → (n ≡ node) × (slot ≡ q) × IsShutAt width ws records slot
      by true e (inl s) = let p = and_parts (has_gate width ws slot) (not (is_some (records slot))) e in (ap (λ (z : Shut). z.unit) (sym s), ap (λ (z : Shut). z.slot) s, record { gate = p.0; empty = no_record (records slot) p.1 })
      by true e (inr s) = absurd s
      by false e s = absurd s

  in_slot : (slot : ℕ) → IsShutAt width ws records slot → Member (made node slot) (shut_slot node width ws records slot)
  in_slot slot is = by (has_gate width ws slot && not (is_some (records slot))) (and_from (has_gate width ws slot) (not (is_some (records slot))) is.gate (empty_test (records slot) is.empty))
    where
      by : (b : Bool) → b ≡ true → Member (made node slot) (if b then made node slot ∷ [] else [])
      by true e = inl refl
      by false e = cc

  -- so many slots
  from_in : (slot count n q : ℕ) → Member (made n q) (shut_from node width ws records slot count) → IsShutIn node width ws records slot count n q
  from_in slot zero n q m = absurd m
  from_in slot (suc count) n q m = elim (member_cases (shut_slot node width ws records slot) (shut_from node width ws records (suc slot) count) (made n q) m) [
    | inl k ↦ (let r = slot_in slot n q k in let e : slot ≡ q = r.1 in record { same = r.0; from = omega arith; below = omega arith; shut = subst (IsShutAt width ws records) e r.2 })
    | inr k ↦ (let r = from_in (suc slot) count n q k in let a = r.from in let b = r.below in record { same = r.same; from = omega arith; below = omega arith; shut = r.shut })
  ]

  in_from : (slot count q : ℕ) → slot ≤ q → q < slot + count → IsShutAt width ws records q → Member (made node q) (shut_from node width ws records slot count)
  in_from slot zero q l m is = absurd (omega arith)
  in_from slot (suc count) q l m is = by (λ a b. in_from (suc slot) count q a b is) (cases_order slot q)
    where
      by : (suc slot ≤ q → q < suc slot + count → Member (made node q) (shut_from node width ws records (suc slot) count)) → (slot ≡ q) ⊎ ((slot < q) ⊎ (q < slot)) → Member (made node q) (shut_slot node width ws records slot ++ shut_from node width ws records (suc slot) count)
      by on (inl e) = member_left (shut_slot node width ws records slot) (shut_from node width ws records (suc slot) count) (made node q) (subst (λ (s : ℕ). Member (made node q) (shut_slot node width ws records s)) (sym e) (in_slot q is))
      by on (inr (inl a)) = member_right (shut_slot node width ws records slot) (shut_from node width ws records (suc slot) count) (made node q) (on (omega arith) (omega arith))
      by on (inr (inr a)) = absurd (omega arith)

-- a slot of the node at a place, where the first node has a number
record IsShutBehind (net : List NodeDecl) (kinds : List Meaning) (h : Held) (words : List (List ℕ)) (first place q : ℕ) : Type 0 where
  unit : UnitPart
  is_unit : unit_at net place ≡ Some unit
  within : q < unit.slots
  gate : has_gate (width_of kinds unit) (first_words (drop place words)) q ≡ true
  empty : h (first + place) q ≡ None

one_on : (words : List (List ℕ)) (place : ℕ) → drop place (drop 1 words) ≡ drop (suc place) words
one_on words place = let e : 1 + place ≡ suc place = omega arith in drop-drop place 1 words ∙ ap (λ (n : ℕ). drop n words) e

module _ (kinds : List Meaning) (h : Held) where
  abbrev Found : ℕ → List NodeDecl → List (List ℕ) → ℕ → ℕ → Type 0
  Found first net words n q = (place : ℕ) × (n ≡ first + place) × IsShutBehind net kinds h words first place q

  -- in the first node
  unit_in : (first : ℕ) (d : NodeDecl) (net : List NodeDecl) (words : List (List ℕ)) (n q : ℕ) → Member (made n q) (shut_of_unit kinds first d.unit (first_words words) (h first)) → Found first (d ∷ net) words n q
  unit_in first d net words n q m = by d.unit refl m
    where
      by : (o : Option UnitPart) → d.unit ≡ o → Member (made n q) (shut_of_unit kinds first o (first_words words) (h first)) → Found first (d ∷ net) words n q
      by None e m = absurd m
      by (Some u) e m =
          let r = from_in first (width_of kinds u) (first_words words) (h first) 0 u.slots n q m in
          let b = r.below in (
            0,
            r.same ∙ omega arith,
            record {
              unit = u;
              is_unit = e;
              within = omega arith;
              gate = r.shut.gate;
              empty = ap (λ (k : ℕ). h k q) (omega arith) ∙ r.shut.empty;
            },
          )

  nodes_in : (first : ℕ) (net : List NodeDecl) (words : List (List ℕ)) (n q : ℕ) → Member (made n q) (shut_of_nodes kinds h first net words) → Found first net words n q
  nodes_in first [] words n q m = absurd m
  nodes_in first (d ∷ net) words n q m = elim (member_cases (shut_of_unit kinds first d.unit (first_words words) (h first)) (shut_of_nodes kinds h (suc first) net (drop 1 words)) (made n q) m) [
    | inl k ↦ unit_in first d net words n q k
    | inr k ↦ (let r = nodes_in (suc first) net (drop 1 words) n q k in
        let z = r.2 in
        let e = r.1 in (
          suc r.0,
          omega arith,
          record {
            unit = z.unit;
            is_unit = z.is_unit;
            within = z.within;
            gate = subst (λ (l : List (List ℕ)). has_gate (width_of kinds z.unit) (first_words l) q ≡ true) (one_on words r.0) z.gate;
            empty = ap (λ (k : ℕ). h k q) (omega arith) ∙ z.empty;
          },
        ))
  ]

  in_unit : (first : ℕ) (d : NodeDecl) (u : UnitPart) (words : List (List ℕ)) (q : ℕ) → d.unit ≡ Some u → q < u.slots → IsShutAt (width_of kinds u) (first_words words) (h first) q → Member (made first q) (shut_of_unit kinds first d.unit (first_words words) (h first))
  in_unit first d u words q e l is = subst (λ (o : Option UnitPart). Member (made first q) (shut_of_unit kinds first o (first_words words) (h first))) (sym e) (in_from first (width_of kinds u) (first_words words) (h first) 0 u.slots q (omega arith) (omega arith) is)

  in_nodes : (first : ℕ) (net : List NodeDecl) (words : List (List ℕ)) (place q : ℕ) → IsShutBehind net kinds h words first place q → Member (made (first + place) q) (shut_of_nodes kinds h first net words)
  in_nodes first [] words place q is = let e = is.is_unit in cc
  in_nodes first (d ∷ net) words zero q is =
      let at : first + 0 ≡ first = omega arith in
      subst (λ (k : ℕ). Member (made k q) (shut_of_nodes kinds h first (d ∷ net) words)) (sym at)
      (member_left (shut_of_unit kinds first d.unit (first_words words) (h first)) (shut_of_nodes kinds h (suc first) net (drop 1 words)) (made first q)
      (in_unit first d is.unit words q is.is_unit is.within (record { gate = is.gate; empty = ap (λ (k : ℕ). h k q) (sym at) ∙ is.empty })))
  in_nodes first (d ∷ net) words (suc place) q is =
      let at : suc first + place ≡ first + suc place = omega arith in
      subst (λ (k : ℕ). Member (made k q) (shut_of_nodes kinds h first (d ∷ net) words)) at
      (member_right (shut_of_unit kinds first d.unit (first_words words) (h first)) (shut_of_nodes kinds h (suc first) net (drop 1 words)) (made (suc first + place) q)
      (in_nodes (suc first) net (drop 1 words) place q (record {
        unit = is.unit;
        is_unit = is.is_unit;
        within = is.within;
        gate = subst (λ (l : List (List ℕ)). has_gate (width_of kinds is.unit) (first_words l) q ≡ true) (sym (one_on words place)) is.gate;
        empty = ap (λ (k : ℕ). h k q) at ∙ is.empty;
      })))

pub shut_are_shut_out : ShutAreShutOut
shut_are_shut_out net kinds h words node slot = (to, from)
  where
    to : Member (made node slot) (shut_of_nodes kinds h 0 net words) → IsShutOut net kinds h words node slot
    to m =
        let r = nodes_in kinds h 0 net words node slot m in
        let at : r.0 ≡ node = (let e = r.1 in omega arith) in
        let z = r.2 in
        subst (λ (k : ℕ). IsShutOut net kinds h words k slot) at (record {
          unit = z.unit;
          is_unit = z.is_unit;
          within = z.within;
          gate = z.gate;
          empty = ap (λ (k : ℕ). h k slot) (omega arith) ∙ z.empty;
        })

    from : IsShutOut net kinds h words node slot → Member (made node slot) (shut_of_nodes kinds h 0 net words)
    from is =
        let at : 0 + node ≡ node = omega arith in
        subst (λ (k : ℕ). Member (made k slot) (shut_of_nodes kinds h 0 net words)) at (in_nodes kinds h 0 net words node slot (record {
          unit = is.unit;
          is_unit = is.is_unit;
          within = is.within;
          gate = is.gate;
          empty = ap (λ (k : ℕ). h k slot) at ∙ is.empty;
        }))
