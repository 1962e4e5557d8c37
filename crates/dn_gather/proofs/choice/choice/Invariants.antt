use Rattle.std.proofs.Common.{◌≡◌, ◌+◌, ◌≤◌, drop, length, take}
use Rattle.dn_gather.specs.Firsts.{AreFirstHops}
use Rattle.dn_gather.specs.Grounds.{total, wanted_slots}
use Rattle.dn_gather.proofs.Choosing.{hop_inputs}
use Rattle.dn_gather.proofs.choice.choice.Given as goal

abbrev pub invariant-pieces : goal.invariant-pieces
invariant-pieces g l = record {
  within : l.i ≤ length l.ground.wanted.pieces.now;
  count : length l.xs ≡ length l.ground.wanted.pieces.now;
  inputs : hop_inputs l.hops.items ≡ drop l.i l.xs;
  hops : AreFirstHops l.ground.wanted.system.on.net.now (wanted_slots (λ k. (goal.UnitKind-dyn g k).meaning k.1) l.ground.wanted) l.ground.wanted.agent l.ground.wanted.rights l.ground.unit (l.v + total (take l.i l.ground.wanted.pieces.now)) (drop l.i l.ground.wanted.pieces.now) l.hops.items;
}

abbrev pub decreases-pieces : goal.decreases-pieces
decreases-pieces g l = l.i
