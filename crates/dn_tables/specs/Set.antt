-- A set of tables: the words of each unit of a net, and the uses and owners of its slots.
use Rattle.std.specs.Prelude.{◌≡◌, ℕ, zero, suc, ◌*◌, Bool, true, false, ◌&&◌, ◌==◌, nat_le, nat_lt, List, [], ◌∷◌, ◌++◌, map, length, take, drop, replicate, slice_get, slice_index_or, slice_set, Option, Some, None, IfSome, IsTrue}
use Rattle.std.specs.List.{list_all}
use Rattle.dn_base.specs.Device.{UnitSize, sizes_of}
use Rattle.dn_base.specs.declared.device.UnitWords.{UnitWords}
use Rattle.dn_net.specs.declared.node.NodeDecl.{NodeDecl}
use Rattle.dn_net.specs.declared.node.Unit.{Unit as UnitPart}
use Rattle.dn_kind.specs.declared.unit_kind.Record.{Record}
use Rattle.dn_kind.specs.Kind.{Meaning, IsPackable, is_plain_unit_shape}
use Rattle.dn_kind.specs.Tables.{record_of_unit, slot_words}
use Rattle.dn_kind.specs.Units.{unit_shape}
use Rattle.dn_tables.specs.declared.table.SlotUse.{SlotUse}
use Rattle.dn_tables.specs.declared.table.NodeTable.{NodeTable}
use Rattle.dn_tables.specs.Uses.{IsOwned}

-- what a set keeps is a table for each node of its net, by the node's number: the unit that the node is, how many words
-- a record has, the words, and the use of each slot; a node that is no unit has neither words nor uses

-- the table has words for each slot of a unit of a shape that a unit may have, and a use for each
abbrev pub is_sized_by : NodeTable → Option UnitPart → Bool
is_sized_by t None = (length t.words == 0) && (length t.uses == 0)
is_sized_by t (Some u) =
    is_plain_unit_shape (unit_shape u) && nat_le 1 t.width && nat_le t.width 4
    && (length t.words == u.slots * t.width) && (length t.uses == u.slots)

-- the table of a node has the words and the uses that the node asks for
abbrev pub is_sized : NodeTable → Bool
is_sized t = is_sized_by t t.unit

-- what every set is: at most 1,024 tables, each of them sized
pub record IsSet (set : List NodeTable) : Type 0 where
  pub few : IsTrue (nat_le (length set) 1024)
  pub sized : IsTrue (list_all is_sized set)

-- the unit of a table, where there is one
abbrev pub unit_of_table : Option NodeTable → Option UnitPart
unit_of_table None = None
unit_of_table (Some t) = t.unit

-- the unit that a node is
abbrev pub unit_in : List NodeTable → ℕ → Option UnitPart
unit_in set node = unit_of_table (slice_get set node)

-- the words of a table, where there is one
abbrev pub words_of_table : Option NodeTable → List ℕ
words_of_table None = []
words_of_table (Some t) = t.words

-- the words of a node
abbrev pub words_in : List NodeTable → ℕ → List ℕ
words_in set node = words_of_table (slice_get set node)

-- the number of words of a record, where there is a table
abbrev pub width_of_table : Option NodeTable → ℕ
width_of_table None = 0
width_of_table (Some t) = t.width

-- how many words a record of a unit has
abbrev pub width_in : List NodeTable → ℕ → ℕ
width_in set node = width_of_table (slice_get set node)

-- a slot that no live grant uses
abbrev pub no_use : SlotUse
no_use = record { uses = 0; owner = None }

-- the uses of a table, where there is one
abbrev pub uses_of_table : Option NodeTable → List SlotUse
uses_of_table None = []
uses_of_table (Some t) = t.uses

-- the use of a slot
abbrev pub use_in : List NodeTable → ℕ → ℕ → SlotUse
use_in set node slot = slice_index_or (uses_of_table (slice_get set node)) slot no_use

-- the unit has the slot
abbrev pub has_slot_by : Option UnitPart → ℕ → Bool
has_slot_by None slot = false
has_slot_by (Some u) slot = nat_lt slot u.slots

-- the table is sized, and its unit has the slot
pub record HasSlot (t : NodeTable) (slot : ℕ) : Type 0 where
  pub sized : IsTrue (is_sized t)
  pub there : IsTrue (has_slot_by t.unit slot)

-- the node is a unit and has the slot
abbrev pub has_slot : List NodeTable → ℕ → ℕ → Bool
has_slot set node slot = has_slot_by (unit_in set node) slot

-- the words of all nodes: tables in the sense of kinds, a list of words for each node
abbrev pub words_of : List NodeTable → List (List ℕ)
words_of set = map (λ t. t.words) set

-- the units of all nodes
abbrev pub units_of : List NodeTable → List (Option UnitPart)
units_of set = map (λ t. t.unit) set

-- the record that a slot holds, by these kinds
abbrev pub record_kept : List Meaning → List NodeTable → ℕ → ℕ → Option Record
record_kept kinds set node slot =
    record_of_unit kinds (unit_in set node) (slice_get (words_of set) node) slot

-- a kind is there whose records have so many words
abbrev pub is_wide : Option Meaning → ℕ → Bool
is_wide None width = false
is_wide (Some kind) width = kind.words == width

-- the node is no unit, or the records of its kind have the words that the table has for each slot
abbrev pub fits_by : List Meaning → ℕ → Option UnitPart → Bool
fits_by kinds width None = true
fits_by kinds width (Some u) = is_wide (slice_get kinds u.kind) width

-- the set fits the kinds: it has the words of so many records by these kinds
abbrev pub fits_kinds : List Meaning → List NodeTable → Bool
fits_kinds kinds set = list_all (λ t. fits_by kinds t.width t.unit) set

-- the second set has the units of the first, and fits the kinds that the first fits
pub record KeepsFit (set set' : List NodeTable) : Type 0 where
  pub units : units_of set' ≡ units_of set
  pub wide : (kinds : List Meaning) → IsTrue (fits_kinds kinds set) → IsTrue (fits_kinds kinds set')

-- the set fits a net and kinds: it keeps exactly the units of this net, and has words for each slot by these kinds
pub record FitsNet (net : List NodeDecl) (kinds : List Meaning) (set : List NodeTable) : Type 0 where
  pub units : units_of set ≡ map (λ n. n.unit) net
  pub wide : IsTrue (fits_kinds kinds set)

-- the table of a node on a device, where the node is a unit
abbrev pub table_on_device : ℕ → List ℕ → Option UnitPart → List UnitWords
table_on_device node ws None = []
table_on_device node ws (Some u) = record { unit = node; words = ws } ∷ []

-- the first list of words, where there is one
abbrev pub first_words : List (List ℕ) → List ℕ
first_words [] = []
first_words (ws ∷ rest) = ws

-- the tables of nodes from a number on that are these units and have these words, as a device tells them: those of
-- units, ascending
abbrev pub tables_told : ℕ → List (Option UnitPart) → List (List ℕ) → List UnitWords
tables_told node [] words = []
tables_told node (o ∷ units) words =
    table_on_device node (first_words words) o ++ tables_told (suc node) units (drop 1 words)

-- the tables of nodes of a net from a number on with these words, as a device tells them
abbrev pub device_tables : ℕ → List NodeDecl → List (List ℕ) → List UnitWords
device_tables node net words = tables_told node (map (λ n. n.unit) net) words

-- the tables of a set whose first has this number, as a device tells them
abbrev pub tables_from : ℕ → List NodeTable → List UnitWords
tables_from node set = tables_told node (units_of set) (words_of set)

-- the tables of a set, as a device tells them
abbrev pub tables_of_set : List NodeTable → List UnitWords
tables_of_set set = tables_from 0 set

-- a device made exactly the units of the set with their numbers of words, and its words, where it tells them, are the
-- set's
pub record IsOnDevice (set : List NodeTable) (sizes : List UnitSize) (told : Option (List UnitWords)) : Type 0 where
  pub units : sizes ≡ sizes_of (tables_of_set set)
  pub words : IfSome told (λ tables. tables ≡ tables_of_set set)

-- how many words a record of a unit of this kind has
abbrev pub width_by : Option Meaning → ℕ
width_by None = 0
width_by (Some kind) = kind.words

-- the table of a unit, or of none, with words 0 and no use
abbrev pub fresh_by : List Meaning → Option UnitPart → NodeTable
fresh_by kinds None = record { unit = None; width = 0; words = []; uses = [] }
fresh_by kinds (Some u) = record {
  unit = Some u;
  width = width_by (slice_get kinds u.kind);
  words = replicate (u.slots * width_by (slice_get kinds u.kind)) 0;
  uses = replicate u.slots no_use;
}

-- the set of a net in which all words are 0 and no slot is used
abbrev pub fresh_set : List Meaning → List NodeDecl → List NodeTable
fresh_set kinds net = map (λ n. fresh_by kinds n.unit) net

-- the words of a table are 0
abbrev pub is_zero : NodeTable → Bool
is_zero t = list_all (λ w. w == 0) t.words

-- the table of one node is changed
abbrev pub with_table : List NodeTable → ℕ → (NodeTable → NodeTable) → List NodeTable
with_table [] node change = []
with_table (t ∷ ts) zero change = change t ∷ ts
with_table (t ∷ ts) (suc node) change = t ∷ with_table ts node change

-- the table with these words
abbrev pub with_words : NodeTable → List ℕ → NodeTable
with_words t ws = record { unit = t.unit; width = t.width; words = ws; uses = t.uses }

-- the table with these uses
abbrev pub with_uses : NodeTable → List SlotUse → NodeTable
with_uses t uses = record { unit = t.unit; width = t.width; words = t.words; uses = uses }

-- words in which those from a place on are these, as many as they are
abbrev pub put_over : List ℕ → ℕ → List ℕ → List ℕ
put_over ws first values = take first ws ++ (values ++ drop (length values) (drop first ws))

-- the set in which the words of one slot are these, and all else is as it was
abbrev pub with_slot : List NodeTable → ℕ → ℕ → List ℕ → List NodeTable
with_slot set node slot values =
    with_table set node (λ t. with_words t (put_over t.words (slot * t.width) values))

-- the set in which the use of one slot is this, and all else is as it was
abbrev pub with_use : List NodeTable → ℕ → ℕ → SlotUse → List NodeTable
with_use set node slot use' = with_table set node (λ t. with_uses t (slice_set t.uses slot use'))

-- the words of the record in a unit of this kind
abbrev pub packed_by : Option Meaning → UnitPart → Record → List ℕ
packed_by None u r = []
packed_by (Some kind) u r = kind.pack (unit_shape u) r

-- the words of the record in a unit
abbrev pub packed_for : List Meaning → Option UnitPart → Record → List ℕ
packed_for kinds None r = []
packed_for kinds (Some u) r = packed_by (slice_get kinds u.kind) u r

-- the words of the record in the unit that a node is
abbrev pub packed_in : List Meaning → List NodeTable → ℕ → Record → List ℕ
packed_in kinds set node r = packed_for kinds (unit_in set node) r

-- the kind of the unit that a node is may be asked for the words of the record
abbrev pub IsPackableIn : List Meaning → List NodeTable → ℕ → Record → Type 0
IsPackableIn kinds set node r = (u : UnitPart) (kind : Meaning) → unit_in set node ≡ Some u →
    slice_get kinds u.kind ≡ Some kind → IsPackable kind (unit_shape u) r

-- the words of a slot are 0
abbrev pub IsEmpty : List NodeTable → ℕ → ℕ → Type 0
IsEmpty set node slot =
    slot_words (width_in set node) (words_in set node) slot ≡ replicate (width_in set node) 0

-- no live grant uses the slot of a table, and its words are 0; so it is of a slot that is not there
abbrev pub is_clear : Option NodeTable → ℕ → Bool
is_clear o slot =
    ((slice_index_or (uses_of_table o) slot no_use).uses == 0)
    && list_all (λ w. w == 0) (slot_words (width_of_table o) (words_of_table o) slot)

-- where that is asked, a live grant owns the slot of a table; else the slot is clear
abbrev pub IsInRun : Bool → Option NodeTable → ℕ → Type 0
IsInRun true o slot = IsOwned (slice_index_or (uses_of_table o) slot no_use)
IsInRun false o slot = IsTrue (is_clear o slot)
