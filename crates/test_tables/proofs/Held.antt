-- Slots of a set that has the units of a net.
use Rattle.std.proofs.Common.{◌≡◌, ◌∙◌, ap, sym, subst, refl, ℕ, zero, suc, ◌+◌, ◌-◌, ◌*◌, ◌<◌, ◌==◌, List, [], ◌∷◌, ◌++◌, map, length, drop, replicate, slice_get, Option, Some, None, option_map, Bool, true, false, ◌||◌, IsTrue, arith}
use Rattle.std.specs.Prelude.{IsSome}
use Rattle.std.specs.List.{list_all}
use Rattle.std.proofs.lemmas.List.{length-drop, length-take-le}
use Rattle.dn_base.proofs.Booleans.{and_parts}
use Rattle.dn_base.proofs.Orders.{eq-eqb}
use Rattle.dn_base.proofs.Lists.{list_all-at}
use Rattle.dn_base.specs.Device.{UnitSize, has_unit, sizes_of}
use Rattle.dn_base.specs.declared.device.UnitWords.{UnitWords}
use Rattle.dn_net.specs.declared.node.NodeDecl.{NodeDecl}
use Rattle.dn_net.specs.declared.node.Unit.{Unit as UnitPart}
use Rattle.dn_net.specs.Decode.{unit_at}
use Rattle.dn_kind.specs.declared.unit_kind.Record.{Record}
use Rattle.dn_kind.specs.Kind.{Meaning, is_plain_unit_shape}
use Rattle.dn_kind.specs.Tables.{slot_words}
use Rattle.dn_kind.specs.Units.{KeepsUnitShape, fits_shape, unit_shape}
use Rattle.dn_tables.specs.declared.table.NodeTable.{NodeTable}
use Rattle.dn_tables.specs.Set.{IsEmpty, IsOnDevice, IsPackableIn, IsSet, has_slot, has_slot_by, is_sized, table_on_device, tables_from, tables_of_set, unit_in, units_of, width_in, width_of_table, words_in, words_of_table}
use Rattle.dn_tables.proofs.Fresh.{zero_words}
use Rattle.dn_tables.proofs.Kept.{sized_of, slot_room, table_of_unit, unit_of_slot}
use Rattle.dn_image.specs.Image.{are_filled, is_filled}
use Rattle.dn_image.proofs.Places.{unit_of_net}
use Rattle.test_tables.specs.Slots.{IsHoldable}

-- a slot of a unit of the net
pub slot_there : (set : List NodeTable) (net : List NodeDecl) (i slot : ℕ) (o : Option UnitPart) → units_of set ≡ map (λ n. n.unit) net → option_map (λ d. d.unit) (slice_get net i) ≡ Some o → IsTrue (has_slot_by o slot) → IsTrue (has_slot set i slot)
slot_there set net i slot o e at h = subst (λ p. IsTrue (has_slot_by p slot)) (sym (unit_of_net set net i o e at)) h

-- what has a slot is a unit
unit_some : (o : Option UnitPart) (slot : ℕ) → IsTrue (has_slot_by o slot) → IsSome o
unit_some None slot h = cc
unit_some (Some u) slot h = refl

pub unit_there : (set : List NodeTable) (i slot : ℕ) → IsTrue (has_slot set i slot) → IsSome (unit_in set i)
unit_there set i slot h = unit_some (unit_in set i) slot h

-- the words of a slot are 0 where each of them is
pub zero_slot : (set : List NodeTable) (i slot : ℕ) → IsSet set → IsTrue (has_slot set i slot) → IsTrue (list_all (λ w. w == 0) (slot_words (width_in set i) (words_in set i) slot)) → IsEmpty set i slot
zero_slot set i slot is there each =
    let u = unit_of_slot (unit_in set i) slot there in
    let k = table_of_unit set i u.0 u.1 in
    let sized = sized_of k.0 u.0 k.2 (list_all-at is_sized set i k.0 is.sized k.1) in
    let words : words_in set i ≡ k.0.words = ap words_of_table k.1 in
    let width : width_in set i ≡ k.0.width = ap width_of_table k.1 in
    let within : slot < u.0.slots = u.2 in
    let room = slot_room slot u.0.slots k.0.width (length k.0.words) within sized.words in
    let long : length (words_in set i) ≡ length k.0.words = ap length words in
    let first : slot * width_in set i ≡ slot * k.0.width = ap (λ n. slot * n) width in
    let rest : length (drop (slot * width_in set i) (words_in set i)) ≡ length (words_in set i) - slot * width_in set i = length-drop (slot * width_in set i) (words_in set i) in
    let many : length (slot_words (width_in set i) (words_in set i) slot) ≡ width_in set i =
    length-take-le (width_in set i) (drop (slot * width_in set i) (words_in set i)) (omega arith) in
    zero_words (slot_words (width_in set i) (words_in set i) slot) each ∙ ap (λ n. replicate n 0) many

-- a unit of the set is one of the net
unit_at_net : (set : List NodeTable) (net : List NodeDecl) (i : ℕ) (u : UnitPart) → units_of set ≡ map (λ n. n.unit) net → unit_in set i ≡ Some u → unit_at net i ≡ Some u
unit_at_net [] net i u e is = cc
unit_at_net (t ∷ ts) [] i u e is = cc
unit_at_net (t ∷ ts) (n ∷ ns) zero u e is = let f : t.unit ≡ n.unit = cc in sym f ∙ is
unit_at_net (t ∷ ts) (n ∷ ns) (suc i) u e is = let f : units_of ts ≡ map (λ n. n.unit) ns = cc in unit_at_net ts ns i u f is

-- the kind of a unit may be asked for the words of a record that the unit can hold
pub packable : (kinds : List Meaning) (set : List NodeTable) (net : List NodeDecl) (i : ℕ) (r : Record) → KeepsUnitShape kinds net → units_of set ≡ map (λ n. n.unit) net → ((u : UnitPart) → unit_in set i ≡ Some u → IsHoldable (unit_shape u) r) → IsPackableIn kinds set i r
packable kinds set net i r shaped e holds = λ u kind is at.
    let h = holds u is in
    let s = and_parts (is_plain_unit_shape (unit_shape u)) (fits_shape (slice_get kinds u.kind) (unit_shape u)) (shaped.shaped i u (unit_at_net set net i u e is)) in
    record {
      plain = h.plain;
      fits = subst (λ k. IsTrue (fits_shape k (unit_shape u))) at s.1;
      within = h.within;
      rights = h.rights;
    }

-- words for each node of a net
pub filled_long : (kinds : List Meaning) (net : List NodeDecl) (words : List (List ℕ)) → IsTrue (are_filled kinds net words) → length words ≡ length net
filled_long kinds [] [] f = refl
filled_long kinds [] (ws ∷ rest) f = cc
filled_long kinds (n ∷ ns) [] f = cc
filled_long kinds (n ∷ ns) (ws ∷ rest) f =
    ap suc (filled_long kinds ns rest (and_parts (is_filled kinds n.unit ws) (are_filled kinds ns rest) f).1)

or_true : (b : Bool) → (b || true) ≡ true
or_true true = refl
or_true false = refl

-- a unit of later nodes was made, whatever the node before them is
made_later : (n k : ℕ) (ws : List ℕ) (o : Option UnitPart) (rest : List UnitWords) → has_unit (sizes_of rest) k ≡ true → has_unit (sizes_of (table_on_device n ws o ++ rest)) k ≡ true
made_later n k ws None rest h = h
made_later n k ws (Some u) rest h = ap (λ b. (n == k) || b) h ∙ or_true (n == k)

made_from : (set : List NodeTable) (n i : ℕ) (u : UnitPart) → unit_in set i ≡ Some u → has_unit (sizes_of (tables_from n set)) (n + i) ≡ true
made_from [] n i u e = cc
made_from (t ∷ set) n zero u e =
    let none : n + zero ≡ n = omega arith in
    ap (λ k. has_unit (sizes_of (tables_from n (t ∷ set))) k) none
    ∙ ap (λ (o : Option UnitPart). has_unit (sizes_of (table_on_device n t.words o ++ tables_from (suc n) set)) n) e
    ∙ ap (λ b. b || has_unit (sizes_of (tables_from (suc n) set)) n) (eq-eqb n n refl)
made_from (t ∷ set) n (suc i) u e =
    let m : n + suc i ≡ suc n + i = omega arith in
    ap (λ k. has_unit (sizes_of (tables_from n (t ∷ set))) k) m
    ∙ made_later n (suc n + i) t.words t.unit (tables_from (suc n) set) (made_from set (suc n) i u e)

-- a unit of the set was made on its device
pub unit_made : (set : List NodeTable) (i slot : ℕ) (sizes : List UnitSize) (told : Option (List UnitWords)) → IsOnDevice set sizes told → IsTrue (has_slot set i slot) → has_unit sizes i ≡ true
unit_made set i slot sizes told on there =
    let u = unit_of_slot (unit_in set i) slot there in
    let none : 0 + i ≡ i = omega arith in
    ap (λ s. has_unit s i) on.units
    ∙ subst (λ k. has_unit (sizes_of (tables_of_set set)) k ≡ true) none (made_from set 0 i u.0 u.1)
