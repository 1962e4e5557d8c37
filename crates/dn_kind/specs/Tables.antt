-- Tables: the words of units, the records that they spell, and what names come to under records.
use Rattle.std.specs.Prelude.{◌≡◌, ℕ, ◌+◌, ◌*◌, ◌/◌, ◌%◌, ◌^◌, ◌<◌, ◌↔◌, if◌then◌else◌, nat_le, nat_lt, List, [], ◌∷◌, length, take, drop, slice_get, Option, Some, None, IsTrue}
use Rattle.std.specs.List.{All}
use Rattle.dn_net.specs.declared.node.Name.{Name}
use Rattle.dn_net.specs.declared.node.NodeDecl.{NodeDecl}
use Rattle.dn_net.specs.declared.node.Unit.{Unit as UnitPart}
use Rattle.dn_net.specs.Chain.{Member, Ends, Reaches, ReachesWithin}
use Rattle.dn_net.specs.Decode.{top, is_accepted, unit_at, steps}
use Rattle.dn_net.specs.Legal.{IsLegalNet}
use Rattle.dn_net.specs.Names.{end_names}
use Rattle.dn_kind.specs.declared.rights.Access.{Access}
use Rattle.dn_kind.specs.declared.unit_kind.Record.{Record}
use Rattle.dn_kind.specs.Rights.{allows, are_rights}
use Rattle.dn_kind.specs.Kind.{Meaning, IsLawful, is_within}
use Rattle.dn_kind.specs.Units.{unit_shape}

-- the record in each slot of each unit, if any: by the number of the node and that of the slot
abbrev pub Held : Type 0
Held = ℕ → ℕ → Option Record

-- the words of a slot, of a unit whose records have so many
abbrev pub slot_words : ℕ → List ℕ → ℕ → List ℕ
slot_words width ws slot = take width (drop (slot * width) ws)

-- the record, where the unit can hold it: it has the port, and the output is below its reach
abbrev pub record_within : UnitPart → Option Record → Option Record
record_within u None = None
record_within u (Some r) = if is_within (unit_shape u) r then Some r else None

-- the record that the words of a slot spell, where the unit has the slot
abbrev pub record_spelled : Option Meaning → UnitPart → Option (List ℕ) → ℕ → Option Record
record_spelled None u ws slot = None
record_spelled (Some kind) u None slot = None
record_spelled (Some kind) u (Some ws) slot =
    if nat_lt slot u.slots then record_within u (kind.unpack (slot_words kind.words ws slot))
    else None

-- the record that a slot of a node holds, where the node is a unit
abbrev pub record_of_unit : List Meaning → Option UnitPart → Option (List ℕ) → ℕ → Option Record
record_of_unit kinds None ws slot = None
record_of_unit kinds (Some u) ws slot = record_spelled (slice_get kinds u.kind) u ws slot

-- the records that tables hold: tables are a list of words for each node, by the node's number, and
-- that of a node that is no unit counts for nothing
abbrev pub record_held : List NodeDecl → List Meaning → List (List ℕ) → Held
record_held net kinds words node slot =
    record_of_unit kinds (unit_at net node) (slice_get words node) slot

-- the list of words of each unit has the words of its slots, and no more
pub record AreTables (net : List NodeDecl) (kinds : List Meaning) (words : List (List ℕ))
    : Type 0 where
  pub sized : (node : ℕ) (u : UnitPart) (kind : Meaning) (ws : List ℕ) →
      unit_at net node ≡ Some u → slice_get kinds u.kind ≡ Some kind →
      slice_get words node ≡ Some ws → length ws ≡ u.slots * kind.words

-- the record, where it allows the access
abbrev pub record_allowing : Access → Option Record → Option Record
record_allowing access None = None
record_allowing access (Some r) = if allows r.rights access then Some r else None

-- the records that allow an access: a slot whose record does not is empty
abbrev pub allowing : Access → Held → Held
allowing access h node slot = record_allowing access (h node slot)

-- the port's node at an address, where there is the port
abbrev pub name_at_port : Option ℕ → ℕ → List Name
name_at_port None a = []
name_at_port (Some node) a = record { node = node; addr = a } ∷ []

-- the output of a slot for an address: on the output page, at the address's offset in its slot
abbrev pub output : UnitPart → Option Record → ℕ → List Name
output u None a = []
output u (Some r) a = name_at_port (slice_get u.ports r.port) (r.page * 2 ^ u.page + a % 2 ^ u.page)

-- the names to which a name decodes in one step, where its node is this unit, or none
abbrev pub steps_by_unit : List NodeDecl → Held → Name → Option UnitPart → List Name
steps_by_unit net h x None = steps net x
steps_by_unit net h x (Some u) =
    if nat_le x.addr top then output u (h x.node (x.addr / 2 ^ u.page)) x.addr else []

-- the names to which a name decodes in one step under records: in a unit by the record of its slot,
-- elsewhere as in the net
abbrev pub steps_under : List NodeDecl → Held → Name → List Name
steps_under net h x = steps_by_unit net h x (unit_at net x.node)

-- one step from a name to another under records
abbrev pub StepUnder : List NodeDecl → Held → Name → Name → Type 0
StepUnder net h x y = Member y (steps_under net h x)

-- the longest chain that resolution under records follows: up to 64 steps of the net before,
-- between and behind three units, and one in each unit; no proof unfolds it
unfoldable pub step_limit_under : ℕ
step_limit_under = 259

-- resolution under records: the accepted names that end a chain of at most so many steps
abbrev pub ResolvesUnder : List NodeDecl → Held → Name → Name → Type 0
ResolvesUnder net h x y = Ends (steps_under net h) (is_accepted net) step_limit_under x y

-- what a name resolves to under records, ascending
abbrev pub resolved_names_under : List NodeDecl → Held → Name → List Name
resolved_names_under net h x = end_names (steps_under net h) (is_accepted net) step_limit_under x

-- resolution under tables for an access
abbrev pub ResolvesFor : List NodeDecl → List Meaning → List (List ℕ) → Access → Name → Name →
    Type 0
ResolvesFor net kinds words access x y =
    ResolvesUnder net (allowing access (record_held net kinds words)) x y

-- each record of the first stands in the second
abbrev pub Extends : Held → Held → Type 0
Extends h h' = (node slot : ℕ) (r : Record) → h node slot ≡ Some r → h' node slot ≡ Some r

-- a record stands in a slot of a unit that can hold it, and allows reading, writing or both
pub record IsHeld (net : List NodeDecl) (node slot : ℕ) (r : Record) : Type 0 where
  pub unit : (u : UnitPart) × (unit_at net node ≡ Some u) × (slot < u.slots)
      × IsTrue (is_within (unit_shape u) r)
  pub rights : IsTrue (are_rights r.rights)

-- each record stands in a slot of a unit that can hold it
abbrev pub AreHeld : List NodeDecl → Held → Type 0
AreHeld net h = (node slot : ℕ) (r : Record) → h node slot ≡ Some r → IsHeld net node slot r

-- Each record that tables hold stands in a slot of a unit that can hold it.
abbrev pub HeldRecordsFit : Type 0
HeldRecordsFit = (net : List NodeDecl) (kinds : List Meaning) (words : List (List ℕ)) →
    All IsLawful kinds → AreHeld net (record_held net kinds words)

-- The list of names has exactly those to which a name resolves under records.
abbrev pub NamesUnderAreResolved : Type 0
NamesUnderAreResolved = (net : List NodeDecl) (h : Held) (x y : Name) →
    Member y (resolved_names_under net h x) ↔ ResolvesUnder net h x y

-- More records in slots that hold none take no name away.
abbrev pub MoreRecordsKeepNames : Type 0
MoreRecordsKeepNames = (net : List NodeDecl) (h h' : Held) → Extends h h' →
    (x y : Name) → ResolvesUnder net h x y → ResolvesUnder net h' x y

-- In a legal net, under records that its units can hold, what is reached at all is reached within
-- 259 steps, so that the bound of resolution under records cuts nothing.
abbrev pub ReachUnderIsWithin : Type 0
ReachUnderIsWithin = (net : List NodeDecl) (h : Held) → IsLegalNet net → AreHeld net h →
    (x y : Name) → Reaches (StepUnder net h) x y →
    ReachesWithin (StepUnder net h) step_limit_under x y
