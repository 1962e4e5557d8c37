use Rattle.std.proofs.Common.{◌+◌, ◌≤◌, drop, length, take}
use Rattle.dn_gather.specs.Grounds.{StandsOn, total}
use Rattle.dn_gather.specs.Stands.{AreAt}
use Rattle.dn_gather.proofs.stands.stands.Given as goal

abbrev pub invariant-pieces : goal.invariant-pieces
invariant-pieces g l = record {
  within : l.i ≤ length l.ground.wanted.pieces.now;
  stands : AreAt (StandsOn l.ground) l.ground.translator.now.page (l.v + total (take l.i l.ground.wanted.pieces.now)) (drop l.i l.ground.wanted.pieces.now) l.xs.items;
}

abbrev pub decreases-pieces : goal.decreases-pieces
decreases-pieces g l = l.i
