-- Lookups in flight while tables are written: what each event makes of a world, and why one is refused.
use Rattle.std.specs.Option.{option_map}
use Rattle.std.specs.Prelude.{ℕ, zero, suc, Bool, true, false, if◌then◌else◌, nat_lt, List, [], ◌∷◌, ◌++◌, length, position, slice_get, Option, Some, None, Result, Ok, Err}
use Rattle.dn_net.specs.declared.node.Name.{Name}
use Rattle.dn_net.specs.declared.node.NodeDecl.{NodeDecl}
use Rattle.dn_net.specs.Decode.{is_agent_at}
use Rattle.dn_net.specs.Names.{resolved_names, stop_names}
use Rattle.dn_kind.specs.declared.rights.Access.{Access}
use Rattle.dn_kind.specs.Kind.{Meaning}
use Rattle.dn_kind.specs.Tables.{Held, allowing, record_held, steps_under}
use Rattle.dn_book.specs.Events.{with_word_in}
use Rattle.dn_flight.specs.declared.event.Event.{Event}
use Rattle.dn_flight.specs.declared.event.Event.TheVariants.{Begin, Read, Write, Fence}
use Rattle.dn_flight.specs.declared.lookup.LookState.{LookState}
use Rattle.dn_flight.specs.declared.lookup.LookState.TheVariants.{At, Ended}
use Rattle.dn_flight.specs.declared.lookup.Lookup.{Lookup}
use Rattle.dn_flight.specs.Lookups.{is_flying, is_in_flight, lookup_limit, moved}
use Rattle.dn_flight.specs.State.{WorldState}
use Rattle.dn_flight.specs.Words.{has_word_in}

-- where a lookup comes to by the stops of a name and the names to which it resolves: to the first stop,
-- or it ends with these names
abbrev pub settled_by : List Name → List Name → LookState
settled_by [] names = Ended names
settled_by (s ∷ ss) names = At s

-- where a lookup comes to from a name by the fixed net: to the unit that the name reaches, or it ends
-- with the names to which the name resolves
abbrev pub settled : List NodeDecl → Name → LookState
settled net x = settled_by (stop_names net x) (resolved_names net x)

-- where it comes to from the output of a record; without one it ends with no name
abbrev pub sent_on : List NodeDecl → List Name → LookState
sent_on net [] = Ended []
sent_on net (x ∷ xs) = settled net x

-- a lookup in a unit reads the record of its slot, whole; one that has ended stays as it is
abbrev pub read_by : List NodeDecl → Held → Access → LookState → LookState
read_by net h access (At s) = sent_on net (steps_under net (allowing access h) s)
read_by net h access (Ended names) = Ended names

-- the lookup after it read under records
abbrev pub read_on : List NodeDecl → Held → Lookup → Lookup
read_on net h l = moved l (read_by net h l.access l.state)

-- the lookup of a number reads
abbrev pub read_at : List NodeDecl → Held → List Lookup → ℕ → List Lookup
read_at net h [] n = []
read_at net h (l ∷ ls) zero = read_on net h l ∷ ls
read_at net h (l ∷ ls) (suc n) = l ∷ read_at net h ls n

-- the name at which a lookup begins
abbrev pub first_name : ℕ → ℕ → Name
first_name agent start = record { node = agent; addr = start }

-- a lookup that begins
abbrev pub begun : List NodeDecl → ℕ → ℕ → Access → Lookup
begun net agent start access = record {
  agent = agent;
  start = start;
  access = access;
  state = settled net (first_name agent start);
}

-- the world after an event
abbrev pub stepped : List NodeDecl → List Meaning → Event → WorldState → WorldState
stepped net kinds (Begin agent start access) w =
    record { words = w.words; lookups = w.lookups ++ begun net agent start access ∷ [] }
stepped net kinds (Read n) w =
    record { words = w.words; lookups = read_at net (record_held net kinds w.words) w.lookups n }
stepped net kinds (Write unit word value) w =
    record { words = with_word_in w.words unit word value; lookups = w.lookups }
stepped net kinds Fence w = w

-- why an event is refused: no agent, too many lookups, no lookup of the number in flight, no such word,
-- or a fence with lookups in flight, by the first of them
pub data RefusedEvent : Type 0 where
  no_agent : RefusedEvent
  many : RefusedEvent
  no_lookup : ℕ → RefusedEvent
  no_word : RefusedEvent
  not_quiet : ℕ → RefusedEvent

-- why a lookup may not begin, by whether its node is an agent and whether there is room for one more
abbrev pub begin_fault : Bool → Bool → Option RefusedEvent
begin_fault false room = Some no_agent
begin_fault true false = Some many
begin_fault true true = None

-- why an event is refused in a world that is played, if it is
abbrev pub flight_fault : List NodeDecl → WorldState → Event → Option RefusedEvent
flight_fault net w (Begin agent start access) =
    begin_fault (is_agent_at (slice_get net agent)) (nat_lt (length w.lookups) lookup_limit)
flight_fault net w (Read n) =
    if is_in_flight (slice_get w.lookups n) then None else Some (no_lookup n)
flight_fault net w (Write unit word value) =
    if has_word_in w.words unit word then None else Some no_word
flight_fault net w Fence = option_map not_quiet (position (λ l. is_flying l.state) w.lookups)

-- the world, or why the event is refused that would lead to it
abbrev pub played_by : Option RefusedEvent → WorldState → Result WorldState RefusedEvent
played_by None w = Ok w
played_by (Some why) w = Err why

-- the world after an event that is played, or why it is refused
abbrev pub played : List NodeDecl → List Meaning → Event → WorldState →
    Result WorldState RefusedEvent
played net kinds event w = played_by (flight_fault net w event) (stepped net kinds event w)
