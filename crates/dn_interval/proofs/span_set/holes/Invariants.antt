-- The holes so far, and what the rest leaves out from an address on, are what the whole list leaves out.
use Rattle.std.proofs.Common.{◌+◌, ◌≤◌, drop}
use Rattle.dn_interval.specs.declared.span.TheConstants.{TOP}
use Rattle.dn_interval.specs.Spans.{StandFrom}
use Rattle.dn_interval.proofs.Passes.{Pass, left_out}
use Rattle.dn_interval.proofs.span_set.holes.Given as goal

abbrev pub invariant-loop-span : goal.invariant-loop-span
invariant-loop-span l = record {
  within : l.from ≤ TOP + 1;
  stand : StandFrom l.from (drop l.span-index l.spans);
  pass : Pass l.holes.items (left_out l.from (drop l.span-index l.spans)) (left_out 0 l.spans);
}
