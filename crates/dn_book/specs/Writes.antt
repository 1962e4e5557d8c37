-- What a grant and a revoke write to a device, in order.
use Rattle.std.specs.Prelude.{◌≡◌, ℕ, zero, suc, ◌-◌, ◌*◌, ◌<◌, Bool, true, false, if◌then◌else◌, List, [], ◌∷◌, ◌++◌, length, take, reverse, slice_get, Option, Some, None}
use Rattle.std.specs.List.{flat_map}
use Rattle.dn_base.specs.Device.{Logged}
use Rattle.dn_base.specs.declared.device.TableEvent.{TableEvent}
use Rattle.dn_base.specs.declared.device.TableEvent.TheVariants.{Fence}
use Rattle.dn_net.specs.declared.node.NodeDecl.{NodeDecl}
use Rattle.dn_net.specs.declared.node.Unit.{Unit as UnitPart}
use Rattle.dn_net.specs.Decode.{unit_at}
use Rattle.dn_kind.specs.declared.rights.Rights.{Rights}
use Rattle.dn_kind.specs.declared.unit_kind.Record.{Record}
use Rattle.dn_kind.specs.Kind.{Meaning}
use Rattle.dn_kind.specs.Tables.{Held}
use Rattle.dn_kind.specs.Units.{unit_shape}
use Rattle.dn_tables.specs.declared.placement.Hop.{Hop}
use Rattle.dn_tables.specs.Writes.{clears_from, write_events, writes_from}
use Rattle.dn_placement.specs.Records.{first_slot, hop_rights, last_slot, slot_record}
use Rattle.dn_book.specs.declared.grant.Grant.{Grant}
use Rattle.dn_book.specs.Book.{records_of, without_id}

-- a record in a slot of a unit
pub record Put : Type 0 where
  pub unit : ℕ
  pub slot : ℕ
  pub holds : Record

-- the records of so many slots of a hop from one on, ascending
abbrev pub slots_from : UnitPart → Rights → Hop → ℕ → ℕ → List Put
slots_from u rights hop slot zero = []
slots_from u rights hop slot (suc count) =
    record { unit = hop.unit; slot = slot; holds = slot_record u rights hop slot }
    ∷ slots_from u rights hop (suc slot) count

-- the records of a hop in this unit, where there is one
abbrev pub hop_slots_by : Option UnitPart → ℕ → Rights → Hop → List Put
hop_slots_by None size rights hop = []
hop_slots_by (Some u) size rights hop =
    slots_from u rights hop (first_slot u hop) (suc (last_slot u size hop) - first_slot u hop)

-- the records of a hop, ascending
abbrev pub hop_slots : List NodeDecl → ℕ → Rights → Hop → List Put
hop_slots net size rights hop = hop_slots_by (unit_at net hop.unit) size rights hop

-- the records of hops from the agent's end, of which the first stands at a place
abbrev pub hops_slots : List NodeDecl → ℕ → Rights → ℕ → ℕ → List Hop → List (List Put)
hops_slots net size rights own place [] = []
hops_slots net size rights own place (hop ∷ hops) =
    hop_slots net size (hop_rights rights own place) hop
    ∷ hops_slots net size rights own (suc place) hops

-- the records of lists, one list after the other
abbrev pub joined_slots : List (List Put) → List Put
joined_slots [] = []
joined_slots (ss ∷ rest) = ss ++ joined_slots rest

-- the records of a grant hop by hop, from the agent's end
abbrev pub grant_slots : List NodeDecl → Grant → List (List Put)
grant_slots net g = hops_slots net g.request.size g.request.rights g.placement.own 0 g.placement.hops

-- there is no record
abbrev pub is_empty : Option Record → Bool
is_empty None = true
is_empty (Some r) = false

-- the slots of a list that hold no record
abbrev pub empty_slots : Held → List Put → List Put
empty_slots h [] = []
empty_slots h (s ∷ ss) =
    if is_empty (h s.unit s.slot) then s ∷ empty_slots h ss else empty_slots h ss

-- what a grant puts over a book, in order: from memory's end to the agent's, and in each hop by
-- ascending slot, the records of the slots that hold none
abbrev pub puts_of : List NodeDecl → List Grant → Grant → List Put
puts_of net book g =
    empty_slots (records_of net book) (joined_slots (reverse (grant_slots net g)))

-- what taking a grant out of a book clears, in order: from the agent's end to memory's, and in each
-- hop by ascending slot, the slots that no other grant uses
abbrev pub clears_of : List NodeDecl → List Grant → Grant → List Put
clears_of net book g =
    empty_slots (records_of net (without_id g.id book)) (joined_slots (grant_slots net g))

-- the kind of a unit, where there is one and its kind is known
abbrev pub kind_by : List Meaning → Option UnitPart → Option Meaning
kind_by kinds None = None
kind_by kinds (Some u) = slice_get kinds u.kind

-- the writes of a record of a unit of this kind, the gate word last
abbrev pub put_events_by : Option UnitPart → Option Meaning → Put → List TableEvent
put_events_by None kind s = []
put_events_by (Some u) None s = []
put_events_by (Some u) (Some kind) s =
    write_events s.unit (writes_from (s.slot * kind.words) (kind.pack (unit_shape u) s.holds))

-- the writes of a record
abbrev pub put_events : List NodeDecl → List Meaning → Put → List TableEvent
put_events net kinds s =
    put_events_by (unit_at net s.unit) (kind_by kinds (unit_at net s.unit)) s

-- the writes that clear a slot of a unit of this kind, the gate word first
abbrev pub clear_events_by : Option Meaning → Put → List TableEvent
clear_events_by None s = []
clear_events_by (Some kind) s =
    write_events s.unit (clears_from (s.slot * kind.words) kind.words)

-- the writes that clear a slot
abbrev pub clear_events : List NodeDecl → List Meaning → Put → List TableEvent
clear_events net kinds s = clear_events_by (kind_by kinds (unit_at net s.unit)) s

-- a fence, where one is due
abbrev pub fence_events : Bool → List TableEvent
fence_events is_due = if is_due then Fence ∷ [] else []

-- the events of a grant over a book: a fence where a record was cleared since the last one, and then
-- the writes of its records
abbrev pub grant_events : List NodeDecl → List Meaning → List Grant → Bool → Grant →
    List TableEvent
grant_events net kinds book cleared g =
    fence_events cleared ++ flat_map (put_events net kinds) (puts_of net book g)

-- the events of taking a grant out of a book
abbrev pub revoke_events : List NodeDecl → List Meaning → List Grant → Grant → List TableEvent
revoke_events net kinds book g = flat_map (clear_events net kinds) (clears_of net book g)

-- events were added to a log in order: all of them, or those before the one that failed
pub record AreAdded (events : List TableEvent) (failed : Bool)
    (log log' : Option (List TableEvent)) : Type 0 where
  pub made : ℕ
  pub all : failed ≡ false → made ≡ length events
  pub less : failed ≡ true → made < length events
  pub logged : Logged log log' (take made events)
