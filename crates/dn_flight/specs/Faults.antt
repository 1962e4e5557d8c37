-- What the answers of `play` say, by their faults.
use Rattle.std.specs.Prelude.{Option, Some, None}
use Rattle.dn_flight.specs.declared.event.FlightFault.{FlightFault}
use Rattle.dn_flight.specs.declared.event.FlightFault.TheVariants.{NoAgent, Many, NoLookup, NoWord, NotQuiet, OutOfMemory}
use Rattle.dn_flight.specs.Flight.{RefusedEvent, many, no_agent, no_lookup, no_word, not_quiet}

-- why an event is refused by a fault; want of memory says nothing
abbrev pub flight_fault_view : FlightFault → Option RefusedEvent
flight_fault_view NoAgent = Some no_agent
flight_fault_view Many = Some many
flight_fault_view (NoLookup n) = Some (no_lookup n)
flight_fault_view NoWord = Some no_word
flight_fault_view (NotQuiet n) = Some (not_quiet n)
flight_fault_view OutOfMemory = None
