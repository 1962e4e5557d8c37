-- The words of the crate that clauses cite, from one place.
pub use Rattle.dn_flight.specs.Counted.{one_if}
pub use Rattle.dn_flight.specs.Faults.{flight_fault_view}
pub use Rattle.dn_flight.specs.Fences.{GoingIsFenced, PeakAndFloor}
pub use Rattle.dn_flight.specs.Flight.{played, read_by, settled}
pub use Rattle.dn_flight.specs.Flown.{LookupsHaveFlown}
pub use Rattle.dn_flight.specs.Laws.{WhatMayComeIsPlayed}
pub use Rattle.dn_flight.specs.Lookups.{IsFlightAt, has_landed, is_flying, is_in_flight, lookup_limit, with_state}
pub use Rattle.dn_flight.specs.Words.{AreSized, IsWorld, has_word_in, word_in}
