-- The set of a net with words 0 and no use keeps the book in which no grant lives; what the slots of a sound
-- book hold.
use Rattle.std.proofs.Common.{◌≡◌, ℕ, zero, suc, ◌+◌, ◌*◌, List, [], ◌∷◌, ◌++◌, length, replicate, slice_get, slice_index_or, Option, Some, None, refl, sym, ap, ◌∙◌, arith}
use Rattle.std.specs.List.{All, list_any}
use Rattle.std.proofs.lemmas.List.{replicate-append-replicate}
use Rattle.std.proofs.lemmas.Bool.{not-true}
use Rattle.std.proofs.Math.Nat.{suc-mul}
use Rattle.dn_net.specs.declared.node.NodeDecl.{NodeDecl}
use Rattle.dn_net.specs.declared.node.Unit.{Unit as UnitPart}
use Rattle.dn_net.specs.Decode.{unit_at}
use Rattle.dn_net.specs.Legal.{IsLegalNet}
use Rattle.dn_kind.specs.declared.unit_kind.Record.{Record}
use Rattle.dn_kind.specs.Kind.{IsLawful, Meaning}
use Rattle.dn_kind.specs.Tables.{Held}
use Rattle.dn_kind.specs.Units.{IsLegalWith}
use Rattle.dn_tables.specs.declared.table.NodeTable.{NodeTable}
use Rattle.dn_tables.specs.Set.{FitsNet, fresh_by, fresh_set, no_use, use_in, width_by, words_of}
use Rattle.dn_book.specs.declared.grant.Grant.{Grant}
use Rattle.dn_book.specs.Book.{IsSound, owns_slot, records_of, uses_slot}
use Rattle.dn_book.specs.Kept.{BookIsProper}
use Rattle.dn_book.specs.Laws.{TablesHoldRecords}
use Rattle.dn_book.specs.Tables.{IsKept, tables_of, packed_node, packed_nodes, packed_slot, packed_slots, packed_unit}
use Rattle.dn_book.proofs.Faithful.{empty_book_is_faithful}
use Rattle.dn_book.proofs.Given.{unused_none}
use Rattle.dn_book.proofs.KeptSlots.{unowned_has_both}
use Rattle.dn_book.proofs.Live.{book_held}
use Rattle.dn_book.proofs.Packed.{AreKindsOf, Holds, IsFull, set_holds, tables_full, tables_hold, tables_many}

-- slots without records have words 0
zero_slots : (kind : Meaning) (u : UnitPart) (records : ℕ → Option Record) → ((q : ℕ) → records q ≡ None) → (first count : ℕ) → replicate (count * kind.words) 0 ≡ packed_slots kind u records first count
zero_slots kind u records none first zero = let e : 0 * kind.words ≡ 0 = omega arith in ap (λ n. replicate n 0) e
zero_slots kind u records none first (suc count) =
    let m : suc count * kind.words ≡ count * kind.words + kind.words = suc-mul count kind.words in
    let e : suc count * kind.words ≡ kind.words + count * kind.words = omega arith in
    ap (λ n. replicate n 0) e
    ∙ sym (replicate-append-replicate kind.words (count * kind.words) 0)
    ∙ ap (λ (l : List ℕ). replicate kind.words 0 ++ l) (zero_slots kind u records none (suc first) count)
    ∙ ap (λ o. packed_slot kind u o ++ packed_slots kind u records (suc first) count) (sym (none first))

zero_node : (kinds : List Meaning) (o : Option UnitPart) (records : ℕ → Option Record) → ((q : ℕ) → records q ≡ None) → (fresh_by kinds o).words ≡ packed_node kinds o records
zero_node kinds None records none = refl
zero_node kinds (Some u) records none = by (slice_get kinds u.kind)
  where
    by : (k : Option Meaning) → replicate (u.slots * width_by k) 0 ≡ packed_unit k u records
    by None = let e : u.slots * 0 ≡ 0 = omega arith in ap (λ n. replicate n 0) e
    by (Some kind) = zero_slots kind u records none 0 u.slots

zero_nodes : (kinds : List Meaning) (h : Held) → ((n q : ℕ) → h n q ≡ None) → (first : ℕ) (net : List NodeDecl) → words_of (fresh_set kinds net) ≡ packed_nodes kinds h first net
zero_nodes kinds h none first [] = refl
zero_nodes kinds h none first (n ∷ net) =
    ap (λ (l : List ℕ). l ∷ words_of (fresh_set kinds net)) (zero_node kinds n.unit (h first) (none first))
    ∙ ap (λ (l : List (List ℕ)). packed_node kinds n.unit (h first) ∷ l) (zero_nodes kinds h none (suc first) net)

-- no slot is used
unused_in : (kinds : List Meaning) (net : List NodeDecl) (n q : ℕ) → use_in (fresh_set kinds net) n q ≡ no_use
unused_in kinds [] n q = refl
unused_in kinds (d ∷ net) zero q = by d.unit
  where
    all : (count q : ℕ) → slice_index_or (replicate count no_use) q no_use ≡ no_use
    all zero q = refl
    all (suc count) zero = refl
    all (suc count) (suc q) = all count q

    by : (o : Option UnitPart) → slice_index_or (fresh_by kinds o).uses q no_use ≡ no_use
    by None = refl
    by (Some u) = all u.slots q
unused_in kinds (d ∷ net) (suc n) q = unused_in kinds net n q

pub begun_kept : (net : List NodeDecl) (kinds : List Meaning) → AreKindsOf net kinds → IsLegalNet net → (set : List NodeTable) → FitsNet net kinds set → set ≡ fresh_set kinds net → IsKept net kinds [] set
begun_kept net kinds k legal set fits is = record {
  sound = (empty_book_is_faithful net legal).0;
  fits = fits;
  words = holds.words;
  held = set_holds net kinds k (records_of net []) set holds;
  uses = λ n q there. ap (λ s. use_in s n q) is ∙ unused_in kinds net n q;
}
  where
    holds : Holds net kinds (records_of net []) set
    holds = record {
      fits = fits;
      words = ap words_of is ∙ zero_nodes kinds (records_of net []) (λ n q. refl) 0 net;
      held = λ n q r e. (let c : None ≡ Some r = e in cc);
    }

-- the tables of a sound book hold its records
pub tables_hold_records : TablesHoldRecords
tables_hold_records net kinds book legal shaped lawful sound node slot =
    tables_hold net kinds (record { lawful = lawful; shaped = shaped }) (records_of net book) (book_held net legal book sound) node slot

-- they have the words of each node, each below 2^64, and no more: as many lists as the net has nodes
pub book_many : (net : List NodeDecl) (kinds : List Meaning) (book : List Grant) → length (tables_of net kinds book) ≡ length net
book_many net kinds book = tables_many kinds (records_of net book) 0 net

pub book_full : (net : List NodeDecl) (kinds : List Meaning) (book : List Grant) → IsLegalWith kinds net → All IsLawful kinds → IsSound net book → (node : ℕ) (ws : List ℕ) → slice_get (tables_of net kinds book) node ≡ Some ws → IsFull kinds (unit_at net node) ws
book_full net kinds book legal lawful sound =
    tables_full net kinds (record { lawful = lawful; shaped = legal.shaped }) (records_of net book) (book_held net legal.legal book sound)

-- the slots of a sound book are proper
pub book_is_proper : BookIsProper
book_is_proper net book legal sound = record {
  held = book_held net legal book sound;
  empty = λ node slot free r e. (let f : None ≡ Some r = sym (unused_none net book node slot (not-true (list_any (uses_slot net node slot) book) free)) ∙ e in cc);
  shared = λ node slot r e free. unowned_has_both net book node slot r e (not-true (list_any (owns_slot net node slot) book) free);
}
