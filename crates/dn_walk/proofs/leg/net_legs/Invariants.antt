-- The legs of the nodes so far.
use Rattle.std.proofs.Common.{◌≡◌, map, take}
use Rattle.dn_walk.specs.Legs.{bare_legs, leg_view}
use Rattle.dn_walk.proofs.leg.net_legs.Given as goal

abbrev pub invariant-loop-node : goal.invariant-loop-node
invariant-loop-node l = map (map leg_view) l.nodes.items ≡ map bare_legs (take l.node l.checked.net.now)
