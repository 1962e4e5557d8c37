-- Schedules: events that may come one after the other, whose writes and fences are those of a log.
use Rattle.std.specs.List.{list_all}
use Rattle.std.specs.Prelude.{◌≡◌, ℕ, List, [], ◌∷◌, length, take, slice_get, IsTrue}
use Rattle.dn_base.specs.declared.device.TableEvent.{TableEvent}
use Rattle.dn_base.specs.declared.device.TableEvent.TheVariants as device
use Rattle.dn_net.specs.declared.node.NodeDecl.{NodeDecl}
use Rattle.dn_net.specs.Decode.{is_agent_at}
use Rattle.dn_kind.specs.Kind.{Meaning}
use Rattle.dn_flight.specs.declared.event.Event.{Event}
use Rattle.dn_flight.specs.declared.event.Event.TheVariants.{Begin, Read, Write, Fence}
use Rattle.dn_flight.specs.Flight.{stepped}
use Rattle.dn_flight.specs.Lookups.{has_landed, is_in_flight}
use Rattle.dn_flight.specs.State.{WorldState}

-- the world after events, one after the other
abbrev pub world_after : List NodeDecl → List Meaning → WorldState → List Event → WorldState
world_after net kinds w [] = w
world_after net kinds w (e ∷ es) = world_after net kinds (stepped net kinds e w) es

-- an event may come: a lookup begins at an agent, and reads while it is in flight; a fence is honest, so
-- no lookup is in flight
abbrev pub MayCome : List NodeDecl → WorldState → Event → Type 0
MayCome net w (Begin agent start access) = IsTrue (is_agent_at (slice_get net agent))
MayCome net w (Read n) = IsTrue (is_in_flight (slice_get w.lookups n))
MayCome net w (Write unit word value) = Unit {0}
MayCome net w Fence = IsTrue (list_all (λ l. has_landed l.state) w.lookups)

-- each event may come in the world that those before it left
abbrev pub AreAllowed : List NodeDecl → List Meaning → WorldState → List Event → Type 0
AreAllowed net kinds w [] = Unit {0}
AreAllowed net kinds w (e ∷ es) = MayCome net w e × AreAllowed net kinds (stepped net kinds e w) es

-- the writes and the fences of events, in order
abbrev pub device_events : List Event → List TableEvent
device_events [] = []
device_events (Begin agent start access ∷ es) = device_events es
device_events (Read n ∷ es) = device_events es
device_events (Write unit word value ∷ es) = device.Write unit word value ∷ device_events es
device_events (Fence ∷ es) = device.Fence ∷ device_events es

-- a schedule of a log of writes and fences: the events may come, and the writes and fences among them
-- are those of the log
pub record IsSchedule (net : List NodeDecl) (kinds : List Meaning) (w : WorldState)
    (log : List TableEvent) (events : List Event) : Type 0 where
  pub allowed : AreAllowed net kinds w events
  pub logged : device_events events ≡ log

-- the moment of a log at which so many events of a schedule have come: how many of them are writes or
-- fences
abbrev pub moment : List Event → ℕ → ℕ
moment events k = length (device_events (take k events))
