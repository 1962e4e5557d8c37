-- What is made, and what the rest makes, is the whole.
use Rattle.std.proofs.Common.{◌≡◌, ◌++◌, map, drop}
use Rattle.std.specs.List.Sorted.{IsNonDecreasingBy}
use Rattle.dn_walk.specs.Legs.{leg_view}
use Rattle.dn_walk.proofs.Merged.{merged}
use Rattle.dn_walk.proofs.leg.merged_legs.Given as goal

abbrev pub invariant-loop-place : goal.invariant-loop-place
invariant-loop-place l = record {
  same : map leg_view l.legs.items ++ merged l.entries (drop l.place-index l.order) l.rest ≡ merged l.entries l.order l.gaps;
  sorted : IsNonDecreasingBy (λ s. s.span.lo) l.rest;
}
