use Rattle.std.proofs.Common.{◌≡◌, ◌+◌, drop}
use Rattle.dn_gather.specs.Grounds.{total}
use Rattle.dn_gather.proofs.stands.total.Given as goal

abbrev pub invariant-loop-piece : goal.invariant-loop-piece
invariant-loop-piece l = l.sum + total (drop l.piece-index l.pieces) ≡ total l.pieces
