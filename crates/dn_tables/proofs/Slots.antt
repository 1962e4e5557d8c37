-- The record of a slot after it was put or cleared, or was half so.
use Rattle.std.proofs.Common.{◌≡◌, ℕ, zero, suc, ◌+◌, ◌*◌, ◌<◌, ◌≤◌, ◌⊎◌, inl, inr, Bool, true, false, if◌then◌else◌, List, [], ◌∷◌, map, length, take, replicate, slice_get, Option, Some, None, Result, Ok, Err, OnOk, OnErr, is_err, IsTrue, refl, sym, ap, ◌∙◌, subst, arith, lt-ltb, eqb-true}
use Rattle.std.specs.List.{All}
use Rattle.std.proofs.lemmas.List.{take_all}
use Rattle.std.proofs.lemmas.List.Elements.{All-map}
use Rattle.std.proofs.lemmas.Option.{same_Some}
use Rattle.dn_base.proofs.Lists.{list_all-at}
use Rattle.dn_base.specs.declared.device.TableEvent.{TableEvent}
use Rattle.dn_base.specs.declared.device.UnitWords.{UnitWords}
use Rattle.dn_net.specs.declared.node.Unit.{Unit as UnitPart}
use Rattle.dn_kind.specs.declared.unit_kind.Record.{Record}
use Rattle.dn_kind.specs.Kind.{Meaning, IsLawful, IsPackable, gate_word}
use Rattle.dn_kind.specs.Tables.{slot_words, record_within, record_spelled, record_of_unit}
use Rattle.dn_kind.specs.Units.{unit_shape}
use Rattle.dn_kind.proofs.Held.{kind_lawful}
use Rattle.dn_tables.specs.declared.table.NodeTable.{NodeTable}
use Rattle.dn_tables.specs.Set.{KeepsFit, with_words, put_over, with_slot, width_in, unit_of_table, width_of_table, words_of_table, words_of, units_of, fits_by, fits_kinds, is_wide, packed_by, packed_for, packed_in, IsPackableIn, IsEmpty, record_kept}
use Rattle.dn_tables.specs.Writes.{WordWrite, writes_from, put_writes, clear_writes, clears_from, words_after, set_after, AreMade}
use Rattle.dn_tables.proofs.Gates.{gate_while_put, gate_while_cleared, none_by_gate}
use Rattle.dn_tables.proofs.Kept.{IsSlot, same_change, get_changed, no_change, map_changed, all_changed}
use Rattle.dn_tables.proofs.Values.{after_puts, after_clears, length_after, length_writes, slot_put}

-- what holds where a call succeeded, or failed
pub on_ok : {A E : Type 0} (r : Result A E) (P : Type 0) → (is_err r ≡ false → P) → OnOk r P
on_ok (Ok x) P h = h refl
on_ok (Err e) P h = tt

pub on_err : {A E : Type 0} (r : Result A E) (P : Type 0) → (is_err r ≡ true → P) → OnErr r P
on_err (Ok x) P h = tt
on_err (Err e) P h = h refl

-- what holds of what is made of each item holds of the list that is made
pub all_of_map : {X : Type 0} (f : X → Meaning) (xs : List X) → All (λ x. IsLawful (f x)) xs → All IsLawful (map f xs)
all_of_map f xs all = All-map IsLawful f xs all

-- the kind of a slot's unit, by kinds that the set fits
pub record IsKindOf (kinds : List Meaning) (t : NodeTable) (u : UnitPart) : Type 0 where
  pub kind : Meaning
  pub found : slice_get kinds u.kind ≡ Some kind
  pub wide : kind.words ≡ t.width

pub kind_of_slot : (kinds : List Meaning) (set : List NodeTable) (node slot : ℕ) (t : NodeTable) (s : IsSlot set node slot t) → IsTrue (fits_kinds kinds set) → IsKindOf kinds t s.part
kind_of_slot kinds set node slot t s fits = by (slice_get kinds s.part.kind) refl (subst (λ o. IsTrue (fits_by kinds t.width o)) s.unit (list_all-at (λ t. fits_by kinds t.width t.unit) set node t fits s.at))
  where
    by : (k : Option Meaning) → slice_get kinds s.part.kind ≡ k → IsTrue (is_wide k t.width) → IsKindOf kinds t s.part
    by None e f = cc
    by (Some kind) e f = record { kind = kind; found = e; wide = eqb-true kind.words t.width f }

-- the records of the kind of a unit have as many words as its table has for each slot
pub width_of_kind : (kinds : List Meaning) (width : ℕ) (o : Option UnitPart) (u : UnitPart) → o ≡ Some u → IsTrue (fits_by kinds width o) → (kind : Meaning) → slice_get kinds u.kind ≡ Some kind → kind.words ≡ width
width_of_kind kinds width o u e fits kind at =
    let wide : IsTrue (is_wide (slice_get kinds u.kind) width) = subst (λ p. IsTrue (fits_by kinds width p)) e fits in
    eqb-true kind.words width (subst (λ k. IsTrue (is_wide k width)) at wide)

-- the words of a record of the unit
packed_is : (kinds : List Meaning) (t : NodeTable) (u : UnitPart) (r : Record) (k : IsKindOf kinds t u) → t.unit ≡ Some u → packed_for kinds t.unit r ≡ k.kind.pack (unit_shape u) r
packed_is kinds t u r k e = ap (λ o. packed_for kinds o r) e ∙ ap (λ o. packed_by o u r) k.found

-- the writes of a record, seen from its table
pub puts_of_table : (kinds : List Meaning) (set : List NodeTable) (node slot : ℕ) (r : Record) (t : NodeTable) → slice_get set node ≡ Some t → put_writes kinds set node slot r ≡ writes_from (slot * t.width) (packed_for kinds t.unit r)
puts_of_table kinds set node slot r t at = ap (λ o. writes_from (slot * width_of_table o) (packed_for kinds (unit_of_table o) r)) at

pub clears_of_table : (set : List NodeTable) (node slot : ℕ) (t : NodeTable) → slice_get set node ≡ Some t → clear_writes set node slot ≡ clears_from (slot * t.width) t.width
clears_of_table set node slot t at = ap (λ o. clears_from (slot * width_of_table o) (width_of_table o)) at

-- a set after all writes is the set after these writes
pub all_made : (node : ℕ) (writes : List WordWrite) (log log' : Option (List TableEvent)) (told told' : Option (List UnitWords)) (set set' : List NodeTable) (failed : Bool) → failed ≡ false → AreMade node writes failed log log' told told' set set' → set' ≡ set_after node writes set
all_made node writes log log' told told' set set' failed e m =
    m.kept ∙ ap (λ ws. set_after node ws set) (take_all m.made writes (let h = m.all e in omega arith))

-- the record of a slot, by the table of its node
pub kept_by : (kinds : List Meaning) (set : List NodeTable) (node slot : ℕ) (t : NodeTable) → slice_get set node ≡ Some t → record_kept kinds set node slot ≡ record_of_unit kinds t.unit (Some t.words) slot
kept_by kinds set node slot t at =
    ap (λ o. record_of_unit kinds (unit_of_table o) (slice_get (words_of set) node) slot) at
    ∙ ap (λ o. record_of_unit kinds t.unit o slot) (words_at set node t at)
  where
    words_at : (set : List NodeTable) (node : ℕ) (t : NodeTable) → slice_get set node ≡ Some t → slice_get (words_of set) node ≡ Some t.words
    words_at [] node t e = cc
    words_at (u ∷ us) zero t e = ap (λ (x : NodeTable). Some x.words) (same_Some u t e)
    words_at (u ∷ us) (suc node) t e = words_at us node t e

-- a slot whose gate word is 0 after writes holds no record
pub half_none : (kinds : List Meaning) → All IsLawful kinds → (set set' : List NodeTable) (node slot : ℕ) (t : NodeTable) (s : IsSlot set node slot t) → IsKindOf kinds t s.part → (writes : List WordWrite) → set' ≡ set_after node writes set → gate_word (slot_words t.width (words_after writes t.words) slot) ≡ 0 → record_kept kinds set' node slot ≡ None
half_none kinds lawful set set' node slot t s k writes e gate =
    let changed : NodeTable = with_words t (words_after writes t.words) in
    let found : slice_get set' node ≡ Some changed = ap (λ l. slice_get l node) e ∙ get_changed set node t (λ u. with_words u (words_after writes u.words)) s.at in
    let many : length (words_after writes t.words) ≡ length t.words = length_after writes t.words in
    let wide : (kind : Meaning) → slice_get kinds s.part.kind ≡ Some kind → kind.words ≡ t.width = λ kind at. ap (λ (m : Meaning). m.words) (same_Some kind k.kind (sym at ∙ k.found)) ∙ k.wide in
    kept_by kinds set' node slot changed found
    ∙ ap (λ o. record_of_unit kinds o (Some changed.words) slot) s.unit
    ∙ none_by_gate kinds s.part t.width slot (words_after writes t.words) lawful wide (let l = s.room in omega arith) gate

-- the gate word of an empty slot while a record is put
gate_put : (width slot k : ℕ) (vs ws : List ℕ) → slot * width + width ≤ length ws → length vs ≡ width → k < width → slot_words width ws slot ≡ replicate width 0 → gate_word (slot_words width (words_after (take k (writes_from (slot * width) vs)) ws) slot) ≡ 0
gate_put zero slot k vs ws l e h empty = absurd (omega arith)
gate_put (suc n) slot k vs ws l e h empty = gate_while_put n slot k vs ws l e h empty

-- and of a slot while it is cleared
gate_clear : (width slot k : ℕ) (ws : List ℕ) → 1 ≤ width → slot * width + width ≤ length ws → gate_word (slot_words width (words_after (take (suc k) (clears_from (slot * width) width)) ws) slot) ≡ 0
gate_clear zero slot k ws l m = absurd (omega arith)
gate_clear (suc n) slot k ws l m = gate_while_cleared n slot k ws m

-- a slot that was cleared has words 0, and all else is as it was
pub clear_stands : (set set' : List NodeTable) (node slot : ℕ) (t : NodeTable) → IsSlot set node slot t → set' ≡ set_after node (clear_writes set node slot) set → set' ≡ with_slot set node slot (replicate (width_in set node) 0)
clear_stands set set' node slot t s e =
    e
    ∙ ap (λ ws. set_after node ws set) (clears_of_table set node slot t s.at)
    ∙ same_change set node t (λ u. with_words u (words_after (clears_from (slot * t.width) t.width) u.words)) (λ u. with_words u (put_over u.words (slot * u.width) (replicate (width_in set node) 0))) s.at
    (ap (with_words t) (after_clears t.width (slot * t.width) t.words s.sized.least s.room ∙ ap (λ o. put_over t.words (slot * t.width) (replicate (width_of_table o) 0)) (sym s.at)))

-- while a slot is cleared it is as it was, or holds no record
pub clear_stopped : (set set' : List NodeTable) (node slot made : ℕ) (t : NodeTable) → IsSlot set node slot t → set' ≡ set_after node (take made (clear_writes set node slot)) set → (set' ≡ set) ⊎ ((kinds : List Meaning) → All IsLawful kinds → IsTrue (fits_kinds kinds set) → record_kept kinds set' node slot ≡ None)
clear_stopped set set' node slot zero t s e = inl (e ∙ no_change set node (λ u. with_words u u.words) (λ u. refl))
clear_stopped set set' node slot (suc made) t s e = inr (λ kinds lawful fits.
    half_none kinds lawful set set' node slot t s (kind_of_slot kinds set node slot t s fits) (take (suc made) (clears_from (slot * t.width) t.width))
    (e ∙ ap (λ ws. set_after node (take (suc made) ws) set) (clears_of_table set node slot t s.at))
    (gate_clear t.width slot made t.words s.sized.least s.room))

-- writes keep the units and that the set fits kinds
pub fit_stays : (writes : List WordWrite) (set set' : List NodeTable) (node : ℕ) → set' ≡ set_after node writes set → KeepsFit set set'
fit_stays writes set set' node e = record {
  units = ap units_of e ∙ map_changed (λ t. t.unit) set node (λ t. with_words t (words_after writes t.words)) (λ t. refl);
  wide = λ kinds fits. ap (fits_kinds kinds) e ∙ all_changed (λ t. fits_by kinds t.width t.unit) set node (λ t. with_words t (words_after writes t.words)) (λ t. refl) ∙ fits;
}

module _ (kinds : List Meaning) (lawful : All IsLawful kinds) (set : List NodeTable) (node slot : ℕ) (t : NodeTable) (s : IsSlot set node slot t) (fits : IsTrue (fits_kinds kinds set)) (r : Record) (packable : IsPackableIn kinds set node r) where
  k : IsKindOf kinds t s.part
  k = kind_of_slot kinds set node slot t s fits

  law : IsLawful k.kind
  law = kind_lawful kinds s.part.kind k.kind lawful k.found

  may : IsPackable k.kind (unit_shape s.part) r
  may = packable s.part k.kind (ap unit_of_table s.at ∙ s.unit) k.found

  packed : packed_for kinds t.unit r ≡ k.kind.pack (unit_shape s.part) r
  packed = packed_is kinds t s.part r k s.unit

  many : length (packed_for kinds t.unit r) ≡ t.width
  many = ap length packed ∙ law.width (unit_shape s.part) r may ∙ k.wide

  of_set : packed_in kinds set node r ≡ packed_for kinds t.unit r
  of_set = ap (λ o. packed_for kinds (unit_of_table o) r) s.at

  -- a record that was put stands in its slot, and all else is as it was
  pub put_stands : (set' : List NodeTable) → set' ≡ set_after node (put_writes kinds set node slot r) set → set' ≡ with_slot set node slot (packed_in kinds set node r)
  put_stands set' e =
      e
      ∙ ap (λ ws. set_after node ws set) (puts_of_table kinds set node slot r t s.at)
      ∙ same_change set node t (λ u. with_words u (words_after (writes_from (slot * t.width) (packed_for kinds t.unit r)) u.words)) (λ u. with_words u (put_over u.words (slot * u.width) (packed_in kinds set node r))) s.at
      (ap (with_words t) (after_puts (packed_for kinds t.unit r) t.words (slot * t.width) (let l = s.room in let m = many in omega arith) ∙ ap (put_over t.words (slot * t.width)) (sym of_set)))

  -- the words of the slot are then those of the record
  slot_is : slot_words k.kind.words (put_over t.words (slot * t.width) (packed_in kinds set node r)) slot ≡ k.kind.pack (unit_shape s.part) r
  slot_is =
      ap (λ n. slot_words n (put_over t.words (slot * t.width) (packed_in kinds set node r)) slot) k.wide
      ∙ slot_put t.width slot t.words (packed_in kinds set node r) (let l = s.room in omega arith) (ap length of_set ∙ many)
      ∙ of_set ∙ packed

  -- and the slot holds the record
  spelled : record_spelled (Some k.kind) s.part (Some (put_over t.words (slot * t.width) (packed_in kinds set node r))) slot ≡ Some r
  spelled =
      ap (λ b. if b then record_within s.part (k.kind.unpack (slot_words k.kind.words (put_over t.words (slot * t.width) (packed_in kinds set node r)) slot)) else None) (lt-ltb slot s.part.slots s.within)
      ∙ ap (λ (ws : List ℕ). record_within s.part (k.kind.unpack ws)) slot_is
      ∙ ap (record_within s.part) (law.reads_back (unit_shape s.part) r may)
      ∙ ap (λ b. if b then Some r else None) may.within

  pub put_recorded : (set' : List NodeTable) → set' ≡ with_slot set node slot (packed_in kinds set node r) → record_kept kinds set' node slot ≡ Some r
  put_recorded set' e =
      let changed : NodeTable = with_words t (put_over t.words (slot * t.width) (packed_in kinds set node r)) in
      let found : slice_get set' node ≡ Some changed = ap (λ l. slice_get l node) e ∙ get_changed set node t (λ u. with_words u (put_over u.words (slot * u.width) (packed_in kinds set node r))) s.at in
      kept_by kinds set' node slot changed found
      ∙ ap (λ o. record_of_unit kinds o (Some changed.words) slot) s.unit
      ∙ ap (λ o. record_spelled o s.part (Some changed.words) slot) k.found
      ∙ spelled

  -- after some of the writes the slot holds no record
  pub put_stopped : (set' : List NodeTable) (made : ℕ) → IsEmpty set node slot → made < length (put_writes kinds set node slot r) → set' ≡ set_after node (take made (put_writes kinds set node slot r)) set → record_kept kinds set' node slot ≡ None
  put_stopped set' made empty l e =
      let writes : List WordWrite = writes_from (slot * t.width) (packed_for kinds t.unit r) in
      let seen : put_writes kinds set node slot r ≡ writes = puts_of_table kinds set node slot r t s.at in
      let fewer : made < t.width = let n = ap length seen in let m = length_writes (slot * t.width) (packed_for kinds t.unit r) in let w = many in omega arith in
      let none : slot_words t.width t.words slot ≡ replicate t.width 0 = sym (ap (λ o. slot_words (width_of_table o) (words_of_table o) slot) s.at) ∙ empty ∙ ap (λ o. replicate (width_of_table o) 0) s.at in
      half_none kinds lawful set set' node slot t s k (take made writes) (e ∙ ap (λ ws. set_after node (take made ws) set) seen) (gate_put t.width slot made (packed_for kinds t.unit r) t.words s.room many fewer none)
