-- The least so far of the last addresses, and of the one before the first of the rest.
use Rattle.std.proofs.Common.{◌≤◌}
use Rattle.dn_interval.proofs.Least.{Least}
use Rattle.dn_interval.proofs.rows.last_address.Given as goal

abbrev pub invariant-loop-strand : goal.invariant-loop-strand
invariant-loop-strand l = record {
  below : l.hi ≤ l.initial.hi;
  least : Least l.running l.strand-index l.initial.hi l.hi;
}
