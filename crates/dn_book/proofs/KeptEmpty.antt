-- In a set of tables that keeps a book the words of a slot that holds no record are 0.
use Rattle.std.proofs.Common.{◌≡◌, ◌∙◌, sym, ap, refl, subst, ℕ, zero, suc, ◌+◌, ◌*◌, ◌<◌, List, [], ◌∷◌, ◌++◌, length, take, drop, replicate, slice_get, Option, Some, None, IsTrue, arith, eqb-true}
use Rattle.std.specs.List.{All}
use Rattle.std.proofs.lemmas.Bool.{and_parts}
use Rattle.std.proofs.lemmas.List.{length-replicate, take_at}
use Rattle.std.proofs.Math.Seq.{drop-append-add}
use Rattle.dn_base.proofs.Lists.{list_all-at}
use Rattle.dn_net.specs.declared.node.NodeDecl.{NodeDecl}
use Rattle.dn_net.specs.declared.node.Unit.{Unit as UnitPart}
use Rattle.dn_net.specs.Decode.{unit_at}
use Rattle.dn_kind.specs.declared.unit_kind.Record.{Record}
use Rattle.dn_kind.specs.Kind.{IsLawful, IsPackable, Meaning, is_plain_unit_shape, is_within}
use Rattle.dn_kind.specs.Tables.{Held, IsHeld, record_of_unit, slot_words}
use Rattle.dn_kind.specs.Units.{KeepsUnitShape, fits_shape, unit_shape}
use Rattle.dn_kind.proofs.Held.{held_records_fit, kind_lawful}
use Rattle.dn_tables.specs.declared.table.NodeTable.{NodeTable}
use Rattle.dn_tables.specs.Set.{fits_by, fits_kinds, is_wide, unit_in, width_in, width_of_table, words_in, words_of}
use Rattle.dn_tables.proofs.Kept.{table_of_unit, unit_of_slot}
use Rattle.dn_tables.proofs.Units.{unit_by_units}
use Rattle.dn_book.specs.declared.grant.Grant.{Grant}
use Rattle.dn_book.specs.Book.{records_of}
use Rattle.dn_book.specs.Tables.{IsKept, packed_node, packed_nodes, packed_slot, packed_slots, packed_unit}
use Rattle.dn_book.specs.Kept.{KeptSlotsAreTheBooks}
use Rattle.dn_book.proofs.KeptSlots.{AreEmptyZero, kept_slots}

-- the words of a slot among those of all slots from a number on
slot_of : (kind : Meaning) (u : UnitPart) (records : ℕ → Option Record) →
    ((q : ℕ) → length (packed_slot kind u (records q)) ≡ kind.words) →
    (count from q : ℕ) → q < count →
    slot_words kind.words (packed_slots kind u records from count) q
    ≡ packed_slot kind u (records (from + q))
slot_of kind u records sized zero from q l = absurd (omega arith)
slot_of kind u records sized (suc count) from zero l =
    let none : zero * kind.words ≡ 0 = omega arith in
    let same : from + zero ≡ from = omega arith in
    ap (λ n. take kind.words (drop n (packed_slots kind u records from (suc count)))) none
    ∙ take_at (packed_slot kind u (records from)) (packed_slots kind u records (suc from) count) kind.words (sized from)
    ∙ ap (λ n. packed_slot kind u (records n)) (sym same)
slot_of kind u records sized (suc count) from (suc q) l =
    let first = packed_slot kind u (records from) in
    let rest = packed_slots kind u records (suc from) count in
    let places : suc q * kind.words ≡ length first + q * kind.words = (let s = sized from in suc_times q kind.words (length first) s) in
    let same : suc from + q ≡ from + suc q = omega arith in
    ap (λ n. take kind.words (drop n (first ++ rest))) places
    ∙ ap (take kind.words) (drop-append-add first rest (q * kind.words))
    ∙ slot_of kind u records sized count (suc from) q (omega arith)
    ∙ ap (λ n. packed_slot kind u (records n)) same
  where
    suc_times : (q w n : ℕ) → n ≡ w → suc q * w ≡ n + q * w
    suc_times q w n e = omega arith

-- the words of a node, where there are any
abbrev pub words_at : Option (List ℕ) → List ℕ
words_at None = []
words_at (Some ws) = ws

-- the words of a table of a set
words_in_at : (set : List NodeTable) (node : ℕ) →
    words_in set node ≡ words_at (slice_get (words_of set) node)
words_in_at [] node = refl
words_in_at (t ∷ set) zero = refl
words_in_at (t ∷ set) (suc node) = words_in_at set node

-- the words of a node among those of all nodes from a number on
node_of : (kinds : List Meaning) (h : Held) (net : List NodeDecl) (from node : ℕ) (u : UnitPart) →
    unit_at net node ≡ Some u →
    words_at (slice_get (packed_nodes kinds h from net) node)
    ≡ packed_unit (slice_get kinds u.kind) u (h (from + node))
node_of kinds h [] from node u e = cc
node_of kinds h (n ∷ net) from zero u e =
    let same : from + zero ≡ from = omega arith in
    ap (λ o. packed_node kinds o (h from)) e ∙ ap (λ m. packed_unit (slice_get kinds u.kind) u (h m)) (sym same)
node_of kinds h (n ∷ net) from (suc node) u e =
    let same : suc from + node ≡ from + suc node = omega arith in
    node_of kinds h net (suc from) node u e ∙ ap (λ m. packed_unit (slice_get kinds u.kind) u (h m)) same

-- the kind of a unit of a set that fits kinds, and how many words its records have there
record IsKindIn (kinds : List Meaning) (set : List NodeTable) (node : ℕ) (u : UnitPart) : Type 0 where
  kind : Meaning
  found : slice_get kinds u.kind ≡ Some kind
  wide : width_in set node ≡ kind.words

kind_in : (kinds : List Meaning) (set : List NodeTable) (node : ℕ) (u : UnitPart) →
    IsTrue (fits_kinds kinds set) → unit_in set node ≡ Some u → IsKindIn kinds set node u
kind_in kinds set node u fits e =
    let t = table_of_unit set node u e in
    by t.0 t.1 (slice_get kinds u.kind) refl (subst (λ o. IsTrue (fits_by kinds t.0.width o)) t.2 (list_all-at (λ t. fits_by kinds t.width t.unit) set node t.0 fits t.1))
  where
    by : (t : NodeTable) → slice_get set node ≡ Some t → (k : Option Meaning) → slice_get kinds u.kind ≡ k → IsTrue (is_wide k t.width) → IsKindIn kinds set node u
    by t at None f h = cc
    by t at (Some kind) f h = record {
      kind = kind;
      found = f;
      wide = ap width_of_table at ∙ sym (eqb-true kind.words t.width h);
    }

module _ (net : List NodeDecl) (kinds : List Meaning) (book : List Grant) (set : List NodeTable)
    (lawful : All IsLawful kinds) (shaped : KeepsUnitShape kinds net) (kept : IsKept net kinds book set)
  where
    -- a record of the book is one that its unit can hold
    held : (node slot : ℕ) (r : Record) → records_of net book node slot ≡ Some r → IsHeld net node slot r
    held node slot r e =
        held_records_fit net kinds (words_of set) lawful node slot r
        (ap (λ o. record_of_unit kinds o (slice_get (words_of set) node) slot)
        (sym (unit_by_units net set kept.fits.units node))
        ∙ kept.held node slot ∙ e)

    -- the words of a slot are as many as its kind says
    sized : (node : ℕ) (u : UnitPart) (kind : Meaning) → unit_at net node ≡ Some u →
        slice_get kinds u.kind ≡ Some kind →
        (q : ℕ) → length (packed_slot kind u (records_of net book node q)) ≡ kind.words
    sized node u kind eu ek q = go (records_of net book node q) refl
      where
        go : (o : Option Record) → records_of net book node q ≡ o →
            length (packed_slot kind u o) ≡ kind.words
        go None e = length-replicate kind.words 0
        go (Some r) e =
            let h = held node q r e in
            let same : h.unit.0 ≡ u = (let a = h.unit.1 in cc) in
            let shape = shaped.shaped node u eu in
            let parts = and_parts (is_plain_unit_shape (unit_shape u)) (fits_shape (slice_get kinds u.kind) (unit_shape u)) shape in
            let packable : IsPackable kind (unit_shape u) r = record {
              plain = parts.0;
              fits = subst (λ k. IsTrue (fits_shape k (unit_shape u))) ek parts.1;
              within = subst (λ v. IsTrue (is_within (unit_shape v) r)) same h.unit.3;
              rights = h.rights;
            } in
            (kind_lawful kinds u.kind kind lawful ek).width (unit_shape u) r packable

    pub empty_zero : AreEmptyZero net book set
    empty_zero node slot there none =
        let u = unit_of_slot (unit_in set node) slot there in
        let at : unit_at net node ≡ Some u.0 = sym (unit_by_units net set kept.fits.units node) ∙ u.1 in
        let k = kind_in kinds set node u.0 kept.fits.wide u.1 in
        let words : words_in set node ≡ packed_slots k.kind u.0 (records_of net book node) 0 u.0.slots =
        words_in_at set node ∙ ap (λ ws. words_at (slice_get ws node)) kept.words
        ∙ node_of kinds (records_of net book) net 0 node u.0 at
        ∙ first_node node u.0 ∙ ap (λ o. packed_unit o u.0 (records_of net book node)) k.found in
        ap (λ ws. slot_words (width_in set node) ws slot) words
        ∙ ap (λ w. slot_words w (packed_slots k.kind u.0 (records_of net book node) 0 u.0.slots) slot) k.wide
        ∙ slot_of k.kind u.0 (records_of net book node) (sized node u.0 k.kind at k.found) u.0.slots 0 slot u.2
        ∙ first_slot slot u.0 k.kind node
        ∙ ap (packed_slot k.kind u.0) none
        ∙ ap (λ w. replicate w 0) (sym k.wide)
      where
        first_node : (node : ℕ) (u : UnitPart) → packed_unit (slice_get kinds u.kind) u (records_of net book (0 + node)) ≡ packed_unit (slice_get kinds u.kind) u (records_of net book node)
        first_node node u = let e : 0 + node ≡ node = omega arith in ap (λ m. packed_unit (slice_get kinds u.kind) u (records_of net book m)) e

        first_slot : (slot : ℕ) (u : UnitPart) (kind : Meaning) (node : ℕ) → packed_slot kind u (records_of net book node (0 + slot)) ≡ packed_slot kind u (records_of net book node slot)
        first_slot slot u kind node = let e : 0 + slot ≡ slot = omega arith in ap (λ m. packed_slot kind u (records_of net book node m)) e

pub kept_slots_are_the_books : KeptSlotsAreTheBooks
kept_slots_are_the_books net kinds book set lawful shaped is kept =
    kept_slots net kinds book set is kept (empty_zero net kinds book set lawful shaped kept)
