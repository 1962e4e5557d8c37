-- A set of tables that keeps a book has the slots as the book leaves them: free where no grant uses
-- them, and owned where a grant owns them.
use Rattle.std.proofs.Common.{◌≡◌, ◌∙◌, sym, ap, refl, subst, ℕ, zero, suc, ◌+◌, ◌-◌, ◌*◌, ◌^◌, ◌<◌, ◌≤◌, inl, inr, Bool, true, false, if◌then◌else◌, ◌&&◌, ◌==◌, not, nat_eq, nat_le, is_some, List, [], ◌∷◌, length, take, drop, get_or, slice_get, Option, Some, None, IsTrue, true≢false, arith, leb-true, eqb-true}
use Rattle.std.specs.List.{list_all, list_any}
use Rattle.std.proofs.lemmas.Bool.{and_parts, or_parts, lt-ltb, ltb-false}
use Rattle.std.proofs.lemmas.List.{drop_all, get_or_past}
use Rattle.std.proofs.lemmas.Nat.{pow_pos}
use Rattle.std.proofs.Math.Nat.{div-lt_iff_lt-mul, mul-le-mul_right}
use Rattle.dn_base.specs.Members.{Member}
use Rattle.dn_base.proofs.Members.{any_member}
use Rattle.dn_base.proofs.Lists.{list_all-at, filter-none}
use Rattle.dn_net.specs.declared.node.NodeDecl.{NodeDecl}
use Rattle.dn_net.specs.declared.node.Unit.{Unit as UnitPart}
use Rattle.dn_net.specs.Decode.{unit_at}
use Rattle.dn_kind.specs.declared.rights.Rights.{Rights}
use Rattle.dn_kind.specs.declared.unit_kind.Record.{Record}
use Rattle.dn_kind.specs.Kind.{Meaning}
use Rattle.dn_kind.specs.Rights.{both_rights}
use Rattle.dn_kind.specs.Tables.{slot_words}
use Rattle.dn_tables.specs.declared.placement.Hop.{Hop}
use Rattle.dn_tables.specs.declared.table.NodeTable.{NodeTable}
use Rattle.dn_tables.specs.declared.table.SlotUse.{SlotUse}
use Rattle.dn_tables.specs.Set.{IsEmpty, IsSet, has_slot, has_slot_by, is_sized, is_sized_by, no_use, unit_of_table, use_in, uses_of_table, width_in, width_of_table, words_of_table}
use Rattle.dn_tables.proofs.Kept.{sized_unit}
use Rattle.dn_tables.proofs.Units.{unit_by_units}
use Rattle.dn_tables.proofs.Fresh.{zeros_zero}
use Rattle.dn_placement.specs.declared.request.Request.{Request}
use Rattle.dn_placement.specs.Placement.{Joins, Leads}
use Rattle.dn_placement.specs.Records.{first_slot, hop_record, hop_record_by, hop_rights, hops_records, is_taken_by, last_slot, or_record, slot_record}
use Rattle.dn_placement.specs.Slots.{Slots, has_owner_in, is_free_in, is_zero_slot, slots_of_set}
use Rattle.dn_book.specs.declared.grant.Grant.{Grant}
use Rattle.dn_book.specs.Book.{IsGrant, grant_records, is_taken, is_taken_by_own, owner_of, owns_slot, records_of, slots_of, uses_slot}
use Rattle.dn_book.specs.Tables.{IsKept, use_of}
use Rattle.dn_book.proofs.Given.{owned_used, unused_none}

-- a hop takes slots of its unit alone
module _ (net : List NodeDecl) (size node slot : ℕ) where
  pub taken_there : (hop : Hop) (o : Option UnitPart) (u : UnitPart) → o ≡ Some u → 1 ≤ size →
      hop.x + size ≤ u.slots * 2 ^ u.page →
      is_some (hop_record_by o size both_rights hop node slot) ≡ true →
      (node ≡ hop.unit) × (slot < u.slots)
  taken_there hop None u e some fits t = cc
  taken_there hop (Some w) u e some fits t = go (nat_eq node hop.unit && is_taken_by w size hop slot) refl t
    where
      go : (b : Bool) → (nat_eq node hop.unit && is_taken_by w size hop slot) ≡ b →
          is_some (if b then Some (slot_record w both_rights hop slot) else None) ≡ true →
          (node ≡ hop.unit) × (slot < u.slots)
      go false eb t = cc
      go true eb t =
          let same : w ≡ u = cc in
          let parts = and_parts (nat_eq node hop.unit) (is_taken_by w size hop slot) eb in
          let last = (and_parts (nat_le (first_slot w hop) slot) (nat_le slot (last_slot w size hop)) parts.1).1 in
          let at : slot ≤ last_slot w size hop = leb-true _ _ last in
          let fit : hop.x + size ≤ w.slots * 2 ^ w.page = subst (λ v. hop.x + size ≤ v.slots * 2 ^ v.page) (sym same) fits in
          let inside : hop.x + size - 1 < w.slots * 2 ^ w.page = omega arith in
          let below : last_slot w size hop < w.slots = (div-lt_iff_lt-mul {k = 2 ^ w.page} {x = hop.x + size - 1} {y = w.slots} (pow_pos w.page)).1 inside in
          (eqb-true _ _ parts.0, subst (λ v. slot < v.slots) same (omega (arith, below)))

-- among hops that lead on, each joins those nearer to memory
pub leads_at : (net : List NodeDecl) (slots : Slots) (rq : Request) (hops : List Hop) (hop : Hop) →
    Leads net slots rq hops → Member hop hops →
    (nearer : List Hop) × Joins net slots rq hop nearer
leads_at net slots rq [] hop l m = absurd m
leads_at net slots rq (h ∷ hops) hop l (inl e) =
    subst (λ x. (nearer : List Hop) × Joins net slots rq x nearer) e (hops, l.0)
leads_at net slots rq (h ∷ hops) hop l (inr m) = leads_at net slots rq hops hop l.1 m

-- a grant uses slots that are there
pub uses_there : (net : List NodeDecl) (node slot : ℕ) (g : Grant) → IsGrant net g →
    uses_slot net node slot g ≡ true → has_slot_by (unit_at net node) slot ≡ true
uses_there net node slot g is t =
    let found = any_member (is_taken net g.request.size node slot) g.placement.hops t in
    let joins = (leads_at net _ g.request g.placement.hops found.0 is.placed.leads found.1).1 in
    let there = taken_there net g.request.size node slot found.0 (unit_at net found.0.unit) joins.unit joins.is_unit is.placed.some joins.fits.within found.2 in
    let here : unit_at net node ≡ Some joins.unit = ap (unit_at net) there.0 ∙ joins.is_unit in
    ap (λ o. has_slot_by o slot) here ∙ lt-ltb _ _ there.1

-- no grant passes a test that only those that use a slot pass, where the slot is not there
none_passes : (net : List NodeDecl) (book : List Grant) (node slot : ℕ) (test : Grant → Bool) →
    ((g : Grant) → test g ≡ true → uses_slot net node slot g ≡ true) →
    ((g : Grant) → Member g book → IsGrant net g) → has_slot_by (unit_at net node) slot ≡ false →
    list_any test book ≡ false
none_passes net book node slot test users each past = go (list_any test book) refl
  where
    go : (b : Bool) → list_any test book ≡ b → b ≡ false
    go false e = refl
    go true e =
        let found = any_member test book e in
        let uses = users found.0 found.2 in
        absurd (true≢false (sym (uses_there net node slot found.0 (each found.0 found.1) uses) ∙ past))

-- an owner is there exactly where some grant owns the slot
owner_there : (net : List NodeDecl) (book : List Grant) (node slot : ℕ) →
    is_some (owner_of net book node slot) ≡ list_any (owns_slot net node slot) book
owner_there net [] node slot = refl
owner_there net (g ∷ gs) node slot = go (owns_slot net node slot g) refl (owner_there net gs node slot)
  where
    go : (b : Bool) → owns_slot net node slot g ≡ b →
        is_some (owner_of net gs node slot) ≡ list_any (owns_slot net node slot) gs →
        is_some (owner_of net (g ∷ gs) node slot) ≡ list_any (owns_slot net node slot) (g ∷ gs)
    go true e h = rw e refl
    go false e h = rw e h

-- a slot that is not there: nobody uses it, and it has no words
pub record IsPast (set : List NodeTable) (node slot : ℕ) : Type 0 where
  pub lone : use_in set node slot ≡ no_use
  pub zero : is_zero_slot set node slot ≡ true

past_slot : (set : List NodeTable) (node slot : ℕ) → IsSet set → has_slot set node slot ≡ false →
    IsPast set node slot
past_slot set node slot is past = go (slice_get set node) refl past
  where
    none : (t : NodeTable) → slice_get set node ≡ Some t → length t.uses ≤ slot →
        length t.words ≤ slot * t.width → IsPast set node slot
    none t at u w =
        let lone : get_or t.uses slot no_use ≡ no_use = get_or_past t.uses slot no_use u in
        let words : drop (slot * t.width) t.words ≡ [] = drop_all (slot * t.width) t.words w in
        record {
          lone = ap (λ o. get_or (uses_of_table o) slot no_use) at ∙ lone;
          zero = ap (λ o. list_all (λ v. v == 0) (slot_words (width_of_table o) (words_of_table o) slot)) at
              ∙ ap (λ l. list_all (λ v. v == 0) (take t.width l)) words
              ∙ nothing t.width;
        }
      where
        nothing : (n : ℕ) → list_all (λ v. v == 0) (take n []) ≡ true
        nothing zero = refl
        nothing (suc n) = refl

    by : (t : NodeTable) (o : Option UnitPart) → t.unit ≡ o → IsTrue (is_sized_by t o) →
        has_slot_by o slot ≡ false → slice_get set node ≡ Some t → IsPast set node slot
    by t None e sized p at =
        let parts = and_parts (length t.words == 0) (length t.uses == 0) sized in
        let ws : length t.words ≡ 0 = eqb-true _ _ parts.0 in
        let us : length t.uses ≡ 0 = eqb-true _ _ parts.1 in
        none t at (omega arith) (omega arith)
    by t (Some u) e sized p at =
        let s = sized_unit t u sized in
        let l : u.slots ≤ slot = ltb-false slot u.slots p in
        let ws : length t.words ≡ u.slots * t.width = s.words in
        let us : length t.uses ≡ u.slots = s.uses in
        let m : u.slots * t.width ≤ slot * t.width = mul-le-mul_right t.width l in
        none t at (omega arith) (omega arith)

    go : (o : Option NodeTable) → slice_get set node ≡ o → has_slot_by (unit_of_table o) slot ≡ false → IsPast set node slot
    go None at p = record {
      lone = ap (λ o. get_or (uses_of_table o) slot no_use) at;
      zero = ap (λ o. list_all (λ v. v == 0) (slot_words (width_of_table o) (words_of_table o) slot)) at;
    }
    go (Some t) at p = by t t.unit refl (list_all-at is_sized set node t is.sized at) p at

-- a hop that does not take a slot puts no record there
hop_none : (net : List NodeDecl) (size node slot : ℕ) (rights : Rights) (hop : Hop) →
    is_taken net size node slot hop ≡ false → hop_record net size rights hop node slot ≡ None
hop_none net size node slot rights hop t = go (unit_at net hop.unit) refl t
  where
    go : (o : Option UnitPart) → unit_at net hop.unit ≡ o →
        is_some (hop_record_by o size both_rights hop node slot) ≡ false →
        hop_record net size rights hop node slot ≡ None
    go None e t = ap (λ o. hop_record_by o size rights hop node slot) e
    go (Some u) e t = ap (λ o. hop_record_by o size rights hop node slot) e ∙ by (nat_eq node hop.unit && is_taken_by u size hop slot) refl t
      where
        by : (b : Bool) → (nat_eq node hop.unit && is_taken_by u size hop slot) ≡ b →
            is_some (if b then Some (slot_record u both_rights hop slot) else None) ≡ false →
            hop_record_by (Some u) size rights hop node slot ≡ None
        by true e t = cc
        by false e t = rw e refl

-- what a hop puts into a slot has its rights
hop_rights_are : (net : List NodeDecl) (size node slot : ℕ) (rights : Rights) (hop : Hop) (r : Record) →
    hop_record net size rights hop node slot ≡ Some r → r.rights ≡ rights
hop_rights_are net size node slot rights hop r e = go (unit_at net hop.unit) e
  where
    go : (o : Option UnitPart) → hop_record_by o size rights hop node slot ≡ Some r → r.rights ≡ rights
    go None e = cc
    go (Some u) e = by (nat_eq node hop.unit && is_taken_by u size hop slot) e
      where
        by : (b : Bool) → (if b then Some (slot_record u rights hop slot) else None) ≡ Some r → r.rights ≡ rights
        by true e = let same : slot_record u rights hop slot ≡ r = cc in ap (λ (t : Record). t.rights) (sym same)
        by false e = cc

-- where the own hop does not take a slot, hops put none but a record with both rights there
hops_both : (net : List NodeDecl) (size node slot : ℕ) (rights : Rights) (own place : ℕ) (hops : List Hop) →
    ((i : ℕ) → place + i ≡ own → is_taken_by_own net size node slot (slice_get hops i) ≡ false) →
    (r : Record) → hops_records net size rights own place hops node slot ≡ Some r → r.rights ≡ both_rights
hops_both net size node slot rights own place [] apart r e = cc
hops_both net size node slot rights own place (hop ∷ hops) apart r e =
    go (hops_both net size node slot rights own (suc place) hops (λ i s. apart (suc i) (omega arith)) r)
    (hop_record net size (hop_rights rights own place) hop node slot) refl e
  where
    here : (t : Record) → hop_record net size (hop_rights rights own place) hop node slot ≡ Some t →
        (b : Bool) → nat_eq place own ≡ b → t.rights ≡ both_rights
    here t is true b =
        let same : place + 0 ≡ own = (let p = eqb-true place own b in omega arith) in
        let none = hop_none net size node slot (hop_rights rights own place) hop (apart 0 same) in
        let f : None ≡ Some t = sym none ∙ is in
        cc
    here t is false b =
        hop_rights_are net size node slot (hop_rights rights own place) hop t is
        ∙ ap (λ c. if c then rights else both_rights) b

    go : (hops_records net size rights own (suc place) hops node slot ≡ Some r → r.rights ≡ both_rights) →
        (o : Option Record) → hop_record net size (hop_rights rights own place) hop node slot ≡ o →
        or_record o (hops_records net size rights own (suc place) hops node slot) ≡ Some r →
        r.rights ≡ both_rights
    go rest None is s = rest s
    go rest (Some t) is s = let same : t ≡ r = cc in ap (λ (u : Record). u.rights) (sym same) ∙ here t is (nat_eq place own) refl

-- a slot that no grant owns holds none but a record with both rights
pub unowned_has_both : (net : List NodeDecl) (book : List Grant) (node slot : ℕ) (r : Record) →
    records_of net book node slot ≡ Some r → list_any (owns_slot net node slot) book ≡ false →
    r.rights ≡ both_rights
unowned_has_both net [] node slot r e none = cc
unowned_has_both net (g ∷ gs) node slot r e none =
    go (unowned_has_both net gs node slot r) (grant_records net g node slot) refl e
  where
    parts : (owns_slot net node slot g ≡ false) × (list_any (owns_slot net node slot) gs ≡ false)
    parts = or_parts (owns_slot net node slot g) (list_any (owns_slot net node slot) gs) none

    own : (i : ℕ) → 0 + i ≡ g.placement.own →
        is_taken_by_own net g.request.size node slot (slice_get g.placement.hops i) ≡ false
    own i s =
        let t : i ≡ g.placement.own = omega arith in
        ap (λ n. is_taken_by_own net g.request.size node slot (slice_get g.placement.hops n)) t ∙ parts.0

    go : (records_of net gs node slot ≡ Some r → list_any (owns_slot net node slot) gs ≡ false → r.rights ≡ both_rights) →
        (o : Option Record) → grant_records net g node slot ≡ o →
        or_record o (records_of net gs node slot) ≡ Some r → r.rights ≡ both_rights
    go rest None is s = rest s parts.1
    go rest (Some t) is s =
        let same : t ≡ r = cc in
        hops_both net g.request.size node slot g.request.rights g.placement.own 0 g.placement.hops own r (is ∙ ap Some same)

-- what a set of tables that keeps a book says of its empty slots
abbrev pub AreEmptyZero : List NodeDecl → List Grant → List NodeTable → Type 0
AreEmptyZero net book set = (node slot : ℕ) → IsTrue (has_slot set node slot) →
    records_of net book node slot ≡ None → IsEmpty set node slot

module _ (net : List NodeDecl) (kinds : List Meaning) (book : List Grant) (set : List NodeTable)
    (is : IsSet set) (kept : IsKept net kinds book set) (empty : AreEmptyZero net book set) where
  absent : (node slot : ℕ) → has_slot set node slot ≡ false →
      has_slot_by (unit_at net node) slot ≡ false
  absent node slot e = sym (ap (λ o. has_slot_by o slot) (unit_by_units net set kept.fits.units node)) ∙ e

  same_free : (node slot : ℕ) →
      is_free_in set node slot ≡ not (list_any (uses_slot net node slot) book)
  same_free node slot = go (has_slot set node slot) refl
    where
      go : (b : Bool) → has_slot set node slot ≡ b →
          is_free_in set node slot ≡ not (list_any (uses_slot net node slot) book)
      go false e =
          let past = past_slot set node slot is e in
          let none = none_passes net book node slot (uses_slot net node slot) (λ g t. t) kept.sound.grants (absent node slot e) in
          ap (λ u. (u.uses == 0) && is_zero_slot set node slot) past.lone
          ∙ past.zero ∙ sym (ap not none)
      go true e = by (list_any (uses_slot net node slot) book) refl
        where
          counted : use_in set node slot ≡ use_of net book node slot
          counted = kept.uses node slot e

          by : (b : Bool) → list_any (uses_slot net node slot) book ≡ b →
              is_free_in set node slot ≡ not b
          by true any =
              ap (λ (u : SlotUse). (u.uses == 0) && is_zero_slot set node slot) counted
              ∙ ap (λ c. c && is_zero_slot set node slot) (filter-none (uses_slot net node slot) book ∙ ap not any)
          by false any =
              let zeros = empty node slot e (unused_none net book node slot any) in
              ap (λ (u : SlotUse). (u.uses == 0) && is_zero_slot set node slot) counted
              ∙ ap (λ c. c && is_zero_slot set node slot) (filter-none (uses_slot net node slot) book ∙ ap not any)
              ∙ ap (list_all (λ v. v == 0)) zeros ∙ zeros_zero (width_in set node)

  same_owned : (node slot : ℕ) →
      has_owner_in set node slot ≡ list_any (owns_slot net node slot) book
  same_owned node slot = go (has_slot set node slot) refl
    where
      go : (b : Bool) → has_slot set node slot ≡ b →
          has_owner_in set node slot ≡ list_any (owns_slot net node slot) book
      go false e =
          ap (λ u. is_some u.owner) (past_slot set node slot is e).lone
          ∙ sym (none_passes net book node slot (owns_slot net node slot) (λ g t. owned_used net g node slot t) kept.sound.grants (absent node slot e))
      go true e =
          ap (λ (u : SlotUse). is_some u.owner) (kept.uses node slot e) ∙ owner_there net book node slot

  pub kept_slots : ◌≡◌ {A = Slots} (slots_of_set kinds set) (slots_of net book)
  kept_slots = λ i. record {
    held = λ n q. kept.held n q i;
    is_free = λ n q. same_free n q i;
    has_owner = λ n q. same_owned n q i;
  }
