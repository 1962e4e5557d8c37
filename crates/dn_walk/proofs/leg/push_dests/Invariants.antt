-- A leg for each destination so far.
use Rattle.std.proofs.Common.{◌≡◌, ◌++◌, map, take}
use Rattle.dn_walk.specs.Legs.{leg_view, dest_leg}
use Rattle.dn_walk.proofs.leg.push_dests.Given as goal

abbrev pub invariant-loop-dest : goal.invariant-loop-dest
invariant-loop-dest l = map leg_view l.legs.items ≡ map leg_view l.initial.legs.items ++ map (dest_leg l.block) (take l.dest-index l.dests)
