-- A leg for each gap so far.
use Rattle.std.proofs.Common.{◌≡◌, map, take}
use Rattle.dn_walk.specs.Legs.{leg_view, gap_leg, span_view}
use Rattle.dn_walk.proofs.leg.legs_to.Given as goal

abbrev pub invariant-loop-gap : goal.invariant-loop-gap
invariant-loop-gap l = map leg_view l.legs.items ≡ map (gap_leg l.node) (map span_view (take l.gap-index l.gaps))
