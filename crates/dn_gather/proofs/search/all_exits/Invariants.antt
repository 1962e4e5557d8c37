use Rattle.std.proofs.Common.{take}
use Rattle.dn_gather.specs.Grounds.{AreExitsOfPieces}
use Rattle.dn_gather.proofs.search.all_exits.Given as goal

abbrev pub invariant-loop-piece : goal.invariant-loop-piece
invariant-loop-piece g l = AreExitsOfPieces l.wanted.system.on.net.now l.translator l.wanted.agent l.wanted.rights (take l.piece-index l.wanted.pieces.now) l.all.items
