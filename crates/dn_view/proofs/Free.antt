-- A free slot holds no record.
use Rattle.std.proofs.Common.{◌≡◌, ℕ, ◌==◌, Bool, true, false, nat_lt, List, [], ◌∷◌, length, slice_get, Option, Some, None, IsTrue, refl, ap, ◌∙◌, subst, ltb-true, eqb-true}
use Rattle.std.specs.List.{All, list_all}
use Rattle.std.specs.Option.{option_map}
use Rattle.std.proofs.lemmas.Bool.{and_parts}
use Rattle.std.proofs.lemmas.Option.{slice_get-map}
use Rattle.dn_base.proofs.Lists.{list_all-at}
use Rattle.dn_net.specs.declared.node.NodeDecl.{NodeDecl}
use Rattle.dn_net.specs.declared.node.Unit.{Unit as UnitPart}
use Rattle.dn_kind.specs.Kind.{Meaning, IsLawful, gate_word}
use Rattle.dn_kind.specs.Tables.{record_spelled, record_of_unit, slot_words}
use Rattle.dn_tables.specs.declared.table.NodeTable.{NodeTable}
use Rattle.dn_tables.specs.Set.{IsSet, FitsNet, is_sized, is_wide, fits_by, unit_of_table, words_of_table, width_of_table, record_kept, use_in}
use Rattle.dn_tables.proofs.Gates.{none_by_gate}
use Rattle.dn_tables.proofs.Kept.{IsSizedUnit, sized_of, slot_room}
use Rattle.dn_placement.specs.Slots.{is_zero_slot, is_free_in}

zero_gate : (ws : List ℕ) → IsTrue (list_all (λ w. w == 0) ws) → gate_word ws ≡ 0
zero_gate [] e = refl
zero_gate (w ∷ []) e = eqb-true w 0 (and_parts (w == 0) true e).0
zero_gate (w ∷ (v ∷ ws)) e = zero_gate (v ∷ ws) (and_parts (w == 0) (list_all (λ w. w == 0) (v ∷ ws)) e).1

past : (kinds : List Meaning) (u : UnitPart) (ws : Option (List ℕ)) (slot : ℕ) → nat_lt slot u.slots ≡ false → record_of_unit kinds (Some u) ws slot ≡ None
past kinds u ws slot e = by (slice_get kinds u.kind) ws
  where
    by : (k : Option Meaning) (ws : Option (List ℕ)) → record_spelled k u ws slot ≡ None
    by None ws = refl
    by (Some k) None = refl
    by (Some k) (Some ws) = rw e refl

pub free_empty : (net : List NodeDecl) (kinds : List Meaning) (set : List NodeTable) → All IsLawful kinds → FitsNet net kinds set → IsSet set → (node slot : ℕ) → IsTrue (is_free_in set node slot) → record_kept kinds set node slot ≡ None
free_empty net kinds set lawful fits is node slot free = ap (λ o. record_of_unit kinds (unit_of_table (slice_get set node)) o slot) (slice_get-map (λ (t : NodeTable). t.words) set node) ∙ by (slice_get set node) refl (zero)
  where
    zero : IsTrue (is_zero_slot set node slot)
    zero = (and_parts ((use_in set node slot).uses == 0) (is_zero_slot set node slot) free).1

    wide_at : (k : Option Meaning) (kind : Meaning) (n : ℕ) → k ≡ Some kind → IsTrue (is_wide k n) → kind.words ≡ n
    wide_at None kind n e w = cc
    wide_at (Some m) kind n e w = let same : m ≡ kind = cc in subst (λ (k : Meaning). k.words ≡ n) same (eqb-true m.words n w)

    unit : (t : NodeTable) (u : UnitPart) → slice_get set node ≡ Some t → t.unit ≡ Some u → IsTrue (list_all (λ w. w == 0) (slot_words t.width t.words slot)) → (b : Bool) → nat_lt slot u.slots ≡ b → record_of_unit kinds (Some u) (Some t.words) slot ≡ None
    unit t u e eu z false l = past kinds u (Some t.words) slot l
    unit t u e eu z true l =
        let s : IsSizedUnit t u = sized_of t u eu (list_all-at is_sized set node t is.sized e) in
        let f : IsTrue (fits_by kinds t.width t.unit) = list_all-at (λ (t : NodeTable). fits_by kinds t.width t.unit) set node t fits.wide e in
        let g : IsTrue (fits_by kinds t.width (Some u)) = subst (λ o. IsTrue (fits_by kinds t.width o)) eu f in
        none_by_gate kinds u t.width slot t.words lawful (λ kind ek. wide_at (slice_get kinds u.kind) kind t.width ek g) (slot_room slot u.slots t.width (length t.words) (ltb-true slot u.slots l) s.words) (zero_gate (slot_words t.width t.words slot) z)

    table : (t : NodeTable) → slice_get set node ≡ Some t → IsTrue (list_all (λ w. w == 0) (slot_words t.width t.words slot)) → (o : Option UnitPart) → t.unit ≡ o → record_of_unit kinds o (Some t.words) slot ≡ None
    table t e z None eu = refl
    table t e z (Some u) eu = unit t u e eu z (nat_lt slot u.slots) refl

    by : (o : Option NodeTable) → slice_get set node ≡ o → IsTrue (list_all (λ w. w == 0) (slot_words (width_of_table o) (words_of_table o) slot)) → record_of_unit kinds (unit_of_table o) (option_map (λ (t : NodeTable). t.words) o) slot ≡ None
    by None e z = refl
    by (Some t) e z = table t e z t.unit refl
