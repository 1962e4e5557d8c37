-- Events that are to be done: the units that were made, the events in order, for how many events room was made, and how
-- many calls failed since then.
use Rattle.std.specs.Prelude.{◌≡◌, ◌≢◌, ℕ, ◌≤◌, true, false, List, ◌∷◌, length, map, Option, Some}
use Rattle.dn_base.specs.declared.device.TableEvent.{TableEvent}
use Rattle.dn_base.specs.declared.device.TableEvent.TheVariants.{Make}
use Rattle.dn_base.specs.Device.{UnitSize}
use Rattle.dn_base.specs.Outside.{Faults}
use Rattle.dn_queue.specs.declared.queue.Size.{Size}

pub record QueueState : Type 0 where
  pub units : List UnitSize
  pub events : List TableEvent
  pub room : ℕ
  pub faults : ℕ

-- how many words the units were given
abbrev pub unit_sizes : List Size → List UnitSize
unit_sizes sizes = map (λ s. record { unit = s.unit; words = s.words }) sizes

-- each fault is answered by the call in which it comes
abbrev pub faults_at : QueueState → Faults
faults_at q = record { count = q.faults; never = false; answered = true }

-- what the queue tells as its log: the events, after an entry that has the room. No call of a device changes the front
-- of its log, so a caller knows by this entry that the room is the one that it made.
abbrev pub log_of : QueueState → Option (List TableEvent)
log_of q = Some (Make 0 q.room ∷ q.events)

-- a call failed only where there are as many events as room was made for
abbrev pub IsFull : QueueState → Type 0
IsFull q = q.faults ≢ 0 → q.room ≤ length q.events
