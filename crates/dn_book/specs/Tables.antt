-- The tables of a book, and how a set of tables stands to it.
use Rattle.std.specs.Prelude.{◌≡◌, ℕ, zero, suc, List, [], ◌∷◌, ◌++◌, replicate, slice_get, Option, Some, None, IsTrue}
use Rattle.dn_net.specs.declared.node.NodeDecl.{NodeDecl}
use Rattle.dn_net.specs.declared.node.Unit.{Unit as UnitPart}
use Rattle.dn_kind.specs.declared.unit_kind.Record.{Record}
use Rattle.dn_kind.specs.Kind.{Meaning}
use Rattle.dn_kind.specs.Tables.{Held}
use Rattle.dn_kind.specs.Units.{unit_shape}
use Rattle.dn_tables.specs.declared.table.NodeTable.{NodeTable}
use Rattle.dn_tables.specs.declared.table.SlotUse.{SlotUse}
use Rattle.dn_tables.specs.Set.{FitsNet, has_slot, record_kept, use_in, words_of}
use Rattle.dn_book.specs.declared.grant.Grant.{Grant}
use Rattle.dn_book.specs.Book.{IsSound, owner_of, records_of, uses_of}

-- the words of a slot that holds a record, or none
abbrev pub packed_slot : Meaning → UnitPart → Option Record → List ℕ
packed_slot kind u None = replicate kind.words 0
packed_slot kind u (Some r) = kind.pack (unit_shape u) r

-- the words of so many slots of a unit from a number on
abbrev pub packed_slots : Meaning → UnitPart → (ℕ → Option Record) → ℕ → ℕ → List ℕ
packed_slots kind u records slot zero = []
packed_slots kind u records slot (suc count) =
    packed_slot kind u (records slot) ++ packed_slots kind u records (suc slot) count

-- the words of a unit of this kind that holds the records
abbrev pub packed_unit : Option Meaning → UnitPart → (ℕ → Option Record) → List ℕ
packed_unit None u records = []
packed_unit (Some kind) u records = packed_slots kind u records 0 u.slots

-- the words of a node; one that is no unit has none
abbrev pub packed_node : List Meaning → Option UnitPart → (ℕ → Option Record) → List ℕ
packed_node kinds None records = []
packed_node kinds (Some u) records = packed_unit (slice_get kinds u.kind) u records

-- the words of nodes from a number on that hold the records
abbrev pub packed_nodes : List Meaning → Held → ℕ → List NodeDecl → List (List ℕ)
packed_nodes kinds h node [] = []
packed_nodes kinds h node (n ∷ ns) =
    packed_node kinds n.unit (h node) ∷ packed_nodes kinds h (suc node) ns

-- the tables that hold records, and words 0 in each slot without one
abbrev pub packed_tables : List NodeDecl → List Meaning → Held → List (List ℕ)
packed_tables net kinds h = packed_nodes kinds h 0 net

-- the tables of a book
abbrev pub tables_of : List NodeDecl → List Meaning → List Grant → List (List ℕ)
tables_of net kinds book = packed_tables net kinds (records_of net book)

-- the use of a slot by a book
abbrev pub use_of : List NodeDecl → List Grant → ℕ → ℕ → SlotUse
use_of net book node slot =
    record { uses = uses_of net book node slot; owner = owner_of net book node slot }

-- A set of tables keeps a book: its words are the tables of the book, its slots hold the records of
-- the book, and it counts the uses that the grants make of each slot, with their owners.
pub record IsKept (net : List NodeDecl) (kinds : List Meaning) (book : List Grant)
    (set : List NodeTable) : Type 0 where
  pub sound : IsSound net book
  pub fits : FitsNet net kinds set
  pub words : words_of set ≡ tables_of net kinds book
  pub held : (node slot : ℕ) → record_kept kinds set node slot ≡ records_of net book node slot
  pub uses : (node slot : ℕ) → IsTrue (has_slot set node slot) →
      use_in set node slot ≡ use_of net book node slot
