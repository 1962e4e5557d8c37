-- What a lookup of a schedule has ended with.
use Rattle.std.specs.List.{All}
use Rattle.std.specs.Prelude.{◌≡◌, ℕ, ◌<◌, ◌≤◌, true, List, [], length, take, slice_get, Some, IsTrue}
use Rattle.dn_base.specs.declared.device.TableEvent.{TableEvent}
use Rattle.dn_net.specs.declared.node.Name.{Name}
use Rattle.dn_net.specs.declared.node.NodeDecl.{NodeDecl}
use Rattle.dn_net.specs.Chain.{Member}
use Rattle.dn_net.specs.Legal.{IsLegalNet}
use Rattle.dn_net.specs.Names.{is_ascending}
use Rattle.dn_kind.specs.Kind.{IsLawful, Meaning}
use Rattle.dn_kind.specs.Tables.{ResolvesUnder, allowing}
use Rattle.dn_book.specs.Events.{held_at}
use Rattle.dn_flight.specs.declared.event.Event.{Event}
use Rattle.dn_flight.specs.declared.event.Event.TheVariants.{Begin}
use Rattle.dn_flight.specs.declared.lookup.LookState.TheVariants.{Ended}
use Rattle.dn_flight.specs.declared.lookup.Lookup.{Lookup}
use Rattle.dn_flight.specs.Fences.{IsFenced}
use Rattle.dn_flight.specs.Flight.{first_name}
use Rattle.dn_flight.specs.Lookups.{is_in_flight}
use Rattle.dn_flight.specs.Schedules.{IsSchedule, moment, world_after}
use Rattle.dn_flight.specs.State.{WorldState}

-- A lookup of a schedule has ended with names: it began by the event after so many, was in flight from
-- then on, and after so many it has ended. At one moment of the log from its begin to its end its start
-- resolved to all of its names; and it has each name to which the start resolved both when it began and
-- when it ended.
pub record HasFlown (net : List NodeDecl) (kinds : List Meaning) (w : WorldState)
    (log : List TableEvent) (events : List Event) (n : ℕ) (l : Lookup) (names : List Name)
    : Type 0 where
  pub before : ℕ
  pub after : ℕ
  pub in_order : before < after
  pub within : after ≤ length events
  pub is_begin : slice_get events before ≡ Some (Begin l.agent l.start l.access)
  pub is_new : length (world_after net kinds w (take before events)).lookups ≡ n
  pub flown : (k : ℕ) → before < k → k < after →
      IsTrue (is_in_flight (slice_get (world_after net kinds w (take k events)).lookups n))
  pub landed : slice_get (world_after net kinds w (take after events)).lookups n ≡ Some l
  pub ascending : is_ascending names ≡ true
  pub peak : ℕ
  pub from : moment events before ≤ peak
  pub to : peak ≤ moment events after
  pub stood : (y : Name) → Member y names →
      ResolvesUnder net (allowing l.access (held_at net kinds w.words log peak))
      (first_name l.agent l.start) y
  pub found : (y : Name) →
      ResolvesUnder net (allowing l.access (held_at net kinds w.words log (moment events before)))
      (first_name l.agent l.start) y →
      ResolvesUnder net (allowing l.access (held_at net kinds w.words log (moment events after)))
      (first_name l.agent l.start) y → Member y names

-- In a legal net with lawful kinds, for each schedule from a world without lookups of a log in which
-- records are first only added and then only cleared between two fences: each lookup that has ended has
-- flown so.
abbrev pub LookupsHaveFlown : Type 0
LookupsHaveFlown = (net : List NodeDecl) (kinds : List Meaning) (w : WorldState)
    (log : List TableEvent) (events : List Event) → IsLegalNet net → All IsLawful kinds →
    w.lookups ≡ [] → IsFenced net kinds w.words log → IsSchedule net kinds w log events →
    (n : ℕ) (l : Lookup) (names : List Name) →
    slice_get (world_after net kinds w events).lookups n ≡ Some l → l.state ≡ Ended names →
    HasFlown net kinds w log events n l names
