use Rattle.std.proofs.Common.{◌≡◌, ◌≤◌, take, length, IsTrue}
use Rattle.std.specs.List.{list_all}
use Rattle.dn_flight.specs.Lookups.{has_landed}
use Rattle.dn_flight.proofs.flights.next_in_flight.Given as goal

abbrev pub invariant-loop-at : goal.invariant-loop-at
invariant-loop-at l = record {
  last : l.at-end ≡ length l.lookups;
  within : l.at ≤ length l.lookups;
  landed : IsTrue (list_all (λ k. has_landed k.state) (take l.at l.lookups));
}
