-- What was met, and what is still to come, are together the meeting of both lists.
use Rattle.std.proofs.Common.{◌+◌, ◌-◌, ◌≤◌, ◌&&◌, drop, length}
use Rattle.dn_interval.specs.Spans.{has, StandFrom}
use Rattle.dn_interval.proofs.Passes.{Pass}
use Rattle.dn_interval.proofs.span_set.common_spans.Given as goal

abbrev pub invariant-pairs : goal.invariant-pairs
invariant-pairs l = record {
  i_within : l.i ≤ length l.ours;
  j_within : l.j ≤ length l.theirs;
  ours : StandFrom 0 (drop l.i l.ours);
  theirs : StandFrom 0 (drop l.j l.theirs);
  pass : Pass l.met.items (λ x. has (drop l.i l.ours) x && has (drop l.j l.theirs) x) (λ x. has l.ours x && has l.theirs x);
}

abbrev pub decreases-pairs : goal.decreases-pairs
decreases-pairs l = (length l.ours - l.i) + (length l.theirs - l.j)
