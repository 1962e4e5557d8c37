-- A placement with another of its hops for its own; the units of a net and those of its tables.
use Rattle.std.proofs.Common.{◌≡◌, ℕ, ◌<◌, ◌≤◌, List, [], map, slice_get, option_map, Option, Some, None, IsTrue, subst, ◌∙◌, ◌⊎◌, inl, inr, Bool, arith}
use Rattle.std.proofs.lemmas.Bool.{cases_lt, lt-ltb, ltb-true}
use Rattle.dn_net.specs.declared.node.NodeDecl.{NodeDecl}
use Rattle.dn_net.specs.declared.node.Unit.{Unit as UnitPart}
use Rattle.dn_net.specs.Decode.{unit_at, unit_of}
use Rattle.dn_kind.specs.Kind.{Meaning}
use Rattle.dn_tables.specs.declared.placement.Hop.{Hop}
use Rattle.dn_tables.specs.declared.table.NodeTable.{NodeTable}
use Rattle.dn_tables.specs.Placement.{Place}
use Rattle.dn_tables.specs.Set.{has_slot, has_slot_by, unit_in, units_of}
use Rattle.dn_tables.proofs.Units.{unit_by_units}
use Rattle.dn_placement.specs.declared.request.Request.{Request}
use Rattle.dn_placement.specs.Placement.{IsFreeHop, IsPlacement}
use Rattle.dn_placement.specs.Records.{first_slot, last_slot}
use Rattle.dn_placement.specs.Slots.{is_free_in, slots_of_set}

-- the unit that a node was found to be
pub unit_found : (net : List NodeDecl) (n : ℕ) (u : UnitPart) → option_map (λ (d : NodeDecl). d.unit) (slice_get net n) ≡ Some (Some u) → unit_at net n ≡ Some u
unit_found net n u e = there (slice_get net n) e
  where
    there : (o : Option NodeDecl) → option_map (λ (d : NodeDecl). d.unit) o ≡ Some (Some u) → unit_of o ≡ Some u
    there None e = cc
    there (Some d) e = cc

pub unit_kept : (set : List NodeTable) (net : List NodeDecl) (n : ℕ) (u : UnitPart) → units_of set ≡ map (λ (d : NodeDecl). d.unit) net → option_map (λ (d : NodeDecl). d.unit) (slice_get net n) ≡ Some (Some u) → unit_in set n ≡ Some u
unit_kept set net n u same e = unit_by_units net set same n ∙ unit_found net n u e

-- a hop whose slots are free in its unit is free
pub hop_free : (net : List NodeDecl) (set : List NodeTable) (rq : Request) (hop : Hop) (u : UnitPart) → unit_at net hop.unit ≡ Some u → ((slot : ℕ) → first_slot u hop ≤ slot → slot ≤ last_slot u rq.size hop → IsTrue (is_free_in set hop.unit slot)) → IsFreeHop net (slots_of_set [] set) rq hop
hop_free net set rq hop u is free = λ v e. subst (λ (w : UnitPart). (slot : ℕ) → first_slot w hop ≤ slot → slot ≤ last_slot w rq.size hop → IsTrue (is_free_in set hop.unit slot)) (one u v cc) free
  where
    one : (a b : UnitPart) → ◌≡◌ {A = Option UnitPart} (Some a) (Some b) → a ≡ b
    one a b e = cc

-- with a free hop for its own a placement is one
pub owned : (net : List NodeDecl) (ks : List Meaning) (set : List NodeTable) (rq : Request) (p : Place) (own : ℕ) (hop : Hop) → slice_get p.hops own ≡ Some hop → IsFreeHop net (slots_of_set [] set) rq hop → IsPlacement net (slots_of_set ks set) rq p → IsPlacement net (slots_of_set ks set) rq (record { v = p.v; hops = p.hops; own = own })
owned net ks set rq p own hop at free is = search

-- a slot before one of a unit's is one of them
pub slot_before : (set : List NodeTable) (unit last slot : ℕ) → IsTrue (has_slot set unit last) → slot ≤ last → IsTrue (has_slot set unit slot)
slot_before set unit last slot h l = there (unit_in set unit) h
  where
    there : (o : Option UnitPart) → IsTrue (has_slot_by o last) → IsTrue (has_slot_by o slot)
    there None h = cc
    there (Some u) h = lt-ltb slot u.slots (omega (arith, ltb-true last u.slots h))

-- what holds before the last and of the last holds up to it
pub up_to : (P : ℕ → Bool) (first last : ℕ) → ((k : ℕ) → first ≤ k → k < last → IsTrue (P k)) → IsTrue (P last) → (k : ℕ) → first ≤ k → k ≤ last → IsTrue (P k)
up_to P first last before is k from to = go (cases_lt k last)
  where
    same : (i j : ℕ) → i ≤ j → j ≤ i → j ≡ i
    same i j a b = omega (arith, a, b)

    go : (k < last) ⊎ (last ≤ k) → IsTrue (P k)
    go (inl l) = before k from l
    go (inr l) = subst (λ j. IsTrue (P j)) (same k last to l) is
