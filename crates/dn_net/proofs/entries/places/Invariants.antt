use Rattle.std.proofs.Common.{◌≡◌, ◌++◌, drop, length}
use Rattle.dn_net.specs.Order.{places_from}
use Rattle.dn_net.proofs.entries.places.Given as goal

abbrev pub invariant-loop-place : goal.invariant-loop-place
invariant-loop-place l = record {
  last : l.place-end ≡ length l.entries;
  same : l.order.items ++ places_from l.place (drop l.place l.entries) ≡ places_from 0 l.entries;
}
