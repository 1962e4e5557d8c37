-- What is made, and what the rest makes, is the whole.
use Rattle.std.proofs.Common.{◌≡◌, ◌++◌, drop}
use Rattle.std.specs.List.Sorted.{IsNonDecreasingBy}
use Rattle.dn_net.proofs.Blocks.{merged}
use Rattle.dn_net.proofs.spans.merged_spans.Given as goal

abbrev pub invariant-loop-place : goal.invariant-loop-place
invariant-loop-place l = record {
  same : l.spans.items ++ merged (drop l.place-index l.maps) l.rest ≡ merged l.maps l.accepts;
  sorted : IsNonDecreasingBy (λ b. b.lo) l.rest;
}
