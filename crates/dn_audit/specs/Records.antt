-- What slots of an image hold: records, and shut-out records.
use Rattle.std.specs.Prelude.{◌≡◌, ◌↔◌, ◌<◌, ℕ, zero, suc, ◌+◌, ◌-◌, ◌*◌, ◌%◌, Bool, true, if◌then◌else◌, ◌&&◌, ◌==◌, not, is_some, List, [], ◌∷◌, ◌++◌, drop, slice_index_or, Option, Some, None}
use Rattle.dn_net.specs.declared.node.NodeDecl.{NodeDecl}
use Rattle.dn_net.specs.declared.node.Unit.{Unit as UnitPart}
use Rattle.dn_net.specs.Chain.{Member}
use Rattle.dn_net.specs.Decode.{unit_at}
use Rattle.dn_kind.specs.declared.rights.Access.TheVariants.{Read, Write}
use Rattle.dn_kind.specs.declared.unit_kind.Record.{Record}
use Rattle.dn_kind.specs.Kind.{Meaning}
use Rattle.dn_kind.specs.Tables.{Held, record_allowing, record_held}
use Rattle.dn_tables.specs.Set.{first_words}
use Rattle.dn_image.specs.Image.{ImageWords, image_tables, width_of}
use Rattle.dn_audit.specs.declared.report.Shut.{Shut}

-- the records of an image
abbrev pub image_records : List NodeDecl → List Meaning → ImageWords → Held
image_records net kinds i = record_held net kinds (image_tables net kinds i)

-- what a record counts for in an image of this version: in version 1 for nothing, where it does not
-- allow both reading and writing
abbrev pub counted : ℕ → Option Record → Option Record
counted version o = if version == 1 then record_allowing Write (record_allowing Read o) else o

-- how many of so many slots from one on hold a record
abbrev pub held_from : (ℕ → Option Record) → ℕ → ℕ → ℕ
held_from records slot zero = 0
held_from records slot (suc count) =
    (if is_some (records slot) then 1 else 0) + held_from records (suc slot) count

-- how many of the slots of a node, which has some where it is a unit
abbrev pub held_of_unit : (ℕ → Option Record) → Option UnitPart → ℕ
held_of_unit records None = 0
held_of_unit records (Some u) = held_from records 0 u.slots

-- how many of those of nodes from a number on
abbrev pub held_of_nodes : Held → ℕ → List NodeDecl → ℕ
held_of_nodes h node [] = 0
held_of_nodes h node (n ∷ ns) = held_of_unit (h node) n.unit + held_of_nodes h (suc node) ns

-- the gate of a slot is set: bit 0 of the last of its words
abbrev pub has_gate : ℕ → List ℕ → ℕ → Bool
has_gate width ws slot = slice_index_or ws (slot * width + (width - 1)) 0 % 2 == 1

-- the shut-out record of a slot, if there is one: the gate is set in the words of the image, and its
-- tables hold no record there
abbrev pub shut_slot : ℕ → ℕ → List ℕ → (ℕ → Option Record) → ℕ → List Shut
shut_slot node width ws records slot =
    if has_gate width ws slot && not (is_some (records slot))
    then record { unit = node; slot = slot } ∷ []
    else []

-- those of so many slots of a unit from one on, ascending
abbrev pub shut_from : ℕ → ℕ → List ℕ → (ℕ → Option Record) → ℕ → ℕ → List Shut
shut_from node width ws records slot zero = []
shut_from node width ws records slot (suc count) =
    shut_slot node width ws records slot ++ shut_from node width ws records (suc slot) count

-- those of a node
abbrev pub shut_of_unit : List Meaning → ℕ → Option UnitPart → List ℕ → (ℕ → Option Record) → List Shut
shut_of_unit kinds node None ws records = []
shut_of_unit kinds node (Some u) ws records = shut_from node (width_of kinds u) ws records 0 u.slots

-- those of nodes from a number on
abbrev pub shut_of_nodes : List Meaning → Held → ℕ → List NodeDecl → List (List ℕ) → List Shut
shut_of_nodes kinds h node [] words = []
shut_of_nodes kinds h node (n ∷ ns) words =
    shut_of_unit kinds node n.unit (first_words words) (h node)
    ++ shut_of_nodes kinds h (suc node) ns (drop 1 words)

-- the slot is shut out: its node is a unit that has it, the words have its gate set, and the records have none there
pub record IsShutOut (net : List NodeDecl) (kinds : List Meaning) (h : Held) (words : List (List ℕ))
    (node slot : ℕ) : Type 0 where
  pub unit : UnitPart
  pub is_unit : unit_at net node ≡ Some unit
  pub within : slot < unit.slots
  pub gate : has_gate (width_of kinds unit) (first_words (drop node words)) slot ≡ true
  pub empty : h node slot ≡ None

-- The slots that are listed are exactly those that are shut out.
abbrev pub ShutAreShutOut : Type 0
ShutAreShutOut = (net : List NodeDecl) (kinds : List Meaning) (h : Held) (words : List (List ℕ))
    (node slot : ℕ) → Member (record { unit = node; slot = slot }) (shut_of_nodes kinds h 0 net words)
    ↔ IsShutOut net kinds h words node slot
