-- What a hop meets in the slots of a unit.
use Rattle.std.specs.Prelude.{◌≡◌, ℕ, ◌+◌, ◌-◌, ◌*◌, ◌/◌, ◌%◌, ◌^◌, ◌<◌, ◌≤◌, ◌⊎◌, Bool, true, false, not, if◌then◌else◌, ◌&&◌, ◌==◌, nat_eq, List, Option, Some, None, IsTrue}
use Rattle.dn_interval.specs.declared.row.End.{End}
use Rattle.dn_net.specs.declared.node.NodeDecl.{NodeDecl}
use Rattle.dn_net.specs.declared.node.Unit.{Unit as UnitPart}
use Rattle.dn_net.specs.Decode.{unit_at}
use Rattle.dn_flat.specs.Crowds.{IsCrowded}
use Rattle.dn_kind.specs.declared.unit_kind.Record.{Record}
use Rattle.dn_kind.specs.Rights.{both_rights}
use Rattle.dn_tables.specs.declared.placement.Hop.{Hop}
use Rattle.dn_placement.specs.Slots.{Slots}
use Rattle.dn_place.specs.declared.slots.Input.{Input}
use Rattle.dn_place.specs.declared.slot_state.SlotState.{SlotState}
use Rattle.dn_place.specs.declared.slot_state.SlotState.TheVariants.{Free, Shared, Barred}
use Rattle.dn_place.specs.Sought.{IsSeenStop, Sought}

-- a slot that is not free: its record may be shared where it has both rights and the slot no owner
abbrev pub shared_slot : Bool → Option Record → SlotState
shared_slot owned None = Barred
shared_slot owned (Some r) = if not owned && (r.rights.0 == both_rights.0) then Shared r else Barred

-- what a hop meets in a slot
abbrev pub slot_of : Slots → ℕ → ℕ → SlotState
slot_of slots unit slot =
    if slots.is_free unit slot then Free
    else shared_slot (slots.has_owner unit slot) (slots.held unit slot)

-- the slot is free
abbrev pub is_free_slot : SlotState → Bool
is_free_slot Free = true
is_free_slot (Shared r) = false
is_free_slot Barred = false

-- no hop may take the slot
abbrev pub is_barred_slot : SlotState → Bool
is_barred_slot Free = false
is_barred_slot (Shared r) = false
is_barred_slot Barred = true

-- the slot is free, or barred where that is asked
abbrev pub is_in_run : Bool → SlotState → Bool
is_in_run false slot = is_free_slot slot
is_in_run true slot = is_barred_slot slot

-- the slot is free, or has this record and may be shared
abbrev pub is_usable_slot : ℕ → ℕ → SlotState → Bool
is_usable_slot port page Free = true
is_usable_slot port page (Shared r) = nat_eq r.port port && nat_eq r.page page
is_usable_slot port page Barred = false

-- each slot from a first to a last one is usable for the pages of a port from a first one on
abbrev pub AreUsable : Slots → ℕ → ℕ → ℕ → ℕ → ℕ → Type 0
AreUsable slots unit first last port page = (slot : ℕ) → first ≤ slot → slot ≤ last →
    IsTrue (is_usable_slot port (page + (slot - first)) (slot_of slots unit slot))

-- the unit of a hop is this one, and the hop ends within its slots
pub record IsWithin (s : Sought) (u : UnitPart) (hop : Hop) : Type 0 where
  pub unit : unit_at s.net hop.unit ≡ Some u
  pub ends : hop.x + s.request.size ≤ u.slots * 2 ^ u.page

-- each slot from a first to a last one is free
abbrev pub AreFree : Slots → ℕ → ℕ → ℕ → Type 0
AreFree slots unit first last = (slot : ℕ) → first ≤ slot → slot ≤ last →
    IsTrue (is_free_slot (slot_of slots unit slot))

-- each slot from a first one on and before another is free
abbrev pub AreFreeTo : Slots → ℕ → ℕ → ℕ → Type 0
AreFreeTo slots unit first to = (slot : ℕ) → first ≤ slot → slot < to →
    IsTrue (is_free_slot (slot_of slots unit slot))

-- each slot from a first one on and before another is free, or each is barred where that is asked
abbrev pub AreRun : Bool → Slots → ℕ → ℕ → ℕ → Type 0
AreRun barred slots unit first to = (slot : ℕ) → first ≤ slot → slot < to →
    IsTrue (is_in_run barred (slot_of slots unit slot))

-- so they are up to a slot, which is at or after the first one, and not past the end unless that one is
pub record IsSlotRun (barred : Bool) (slots : Slots) (unit first end to : ℕ) : Type 0 where
  pub onward : first ≤ to
  pub most : first ≤ end → to ≤ end
  pub run : AreRun barred slots unit first to

-- no hop that begins in a slot from a first one on, and before another, can take a slot for the pages
-- of a port that it would meet there
abbrev pub AreShut : SlotState → ℕ → ℕ → ℕ → ℕ → ℕ → Type 0
AreShut found slot first to port page = (q : ℕ) → first ≤ q → q < to →
    IsTrue (is_usable_slot port (page + (slot - q)) found) → ⊥

-- no input from the hop's on and before another, in its place in a slot, finds its slots usable
abbrev pub AreBarred : Sought → UnitPart → Hop → ℕ → Type 0
AreBarred s u hop to = (x : ℕ) → hop.x ≤ x → x < to → x % 2 ^ u.page ≡ hop.x % 2 ^ u.page →
    AreUsable s.slots hop.unit (x / 2 ^ u.page) ((x + s.request.size - 1) / 2 ^ u.page) hop.port
    (hop.y / 2 ^ u.page) → ⊥

-- of so many names of a unit from an input on, two addresses of agents reach one
abbrev pub HasCrowd : Sought → ℕ → ℕ → Type 0
HasCrowd s unit x = (i : ℕ) × (i < s.request.size) × IsCrowded s.net (record { node = unit; addr = x + i })

-- of so many names of a unit from an input on, one that is in a free slot is the stop of an address of an agent, or
-- another agent than the one that asks comes to it by the records that are in use
abbrev pub HasSeenStop : Sought → UnitPart → ℕ → ℕ → Type 0
HasSeenStop s u unit x = (i : ℕ) × (i < s.request.size)
    × IsSeenStop s (record { node = unit; addr = x + i })
    × IsTrue (s.slots.is_free unit ((x + i) / 2 ^ u.page))

-- a hop with this input finds a slot that is not usable; or it is the first from the agent's end, and two
-- addresses of agents reach one of its names; or it is a later one, and agents come to one of its names, in a free
-- slot
abbrev pub IsUseless : Sought → UnitPart → ℕ → Hop → ℕ → Type 0
IsUseless s u place hop x =
    (AreUsable s.slots hop.unit (x / 2 ^ u.page) ((x + s.request.size - 1) / 2 ^ u.page) hop.port
    (hop.y / 2 ^ u.page) → ⊥)
    ⊎ (((place ≡ 1) × HasCrowd s hop.unit x)
    ⊎ ((place ≡ 1 → ⊥) × HasSeenStop s u hop.unit x))

-- so is each input from the hop's on and before another, in its place in a slot
abbrev pub AreUseless : Sought → UnitPart → ℕ → Hop → ℕ → Type 0
AreUseless s u place hop to = (x : ℕ) → hop.x ≤ x → x < to →
    x % 2 ^ u.page ≡ hop.x % 2 ^ u.page → IsUseless s u place hop x

-- no hop may take the slot of a name, or it is in no slot of a unit
abbrev pub IsBarred : List NodeDecl → Slots → End → Type 0
IsBarred net slots name = (u : UnitPart) → unit_at net name.node ≡ Some u →
    name.base / 2 ^ u.page < u.slots → slot_of slots name.node (name.base / 2 ^ u.page) ≡ Barred

-- a hop may be tried with its input: it ends within the slots of its unit, its output by the unit's reach, and the slots
-- from its first on are free before one
pub record MayTry (s : Sought) (u : UnitPart) (hop : Hop) (to : ℕ) : Type 0 where
  pub within : IsWithin s u hop
  pub reached : hop.y + s.request.size ≤ 2 ^ u.reach
  pub free : AreFreeTo s.slots hop.unit (hop.x / 2 ^ u.page) to

-- the next input of a unit that may serve a hop at this place from the agent's end: each before it is useless; where it is
-- the hop's own, it finds its slots usable; and before which slot those from the hop's first on are known to be free
pub record IsNextTry (s : Sought) (u : UnitPart) (place : ℕ) (hop : Hop) (next : Input) : Type 0 where
  pub onward : hop.x ≤ next.x
  pub agree : next.x % 2 ^ u.page ≡ hop.x % 2 ^ u.page
  pub few : next.x ≤ 2 ^ 59
  pub useless : AreUseless s u place hop next.x
  pub free : AreFreeTo s.slots hop.unit (hop.x / 2 ^ u.page) next.free
  pub usable : next.x ≡ hop.x → AreUsable s.slots hop.unit (hop.x / 2 ^ u.page)
      ((hop.x + s.request.size - 1) / 2 ^ u.page) hop.port (hop.y / 2 ^ u.page)
