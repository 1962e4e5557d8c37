use Rattle.std.proofs.Common.{◌≡◌, ◌++◌, drop, map, take}
use Rattle.netconf_c.specs.Gathering.{piece_of}
use Rattle.netconf_c.proofs.pieces.copy_pieces.Given as goal

abbrev pub invariant-loop-at : goal.invariant-loop-at
invariant-loop-at l = l.out ≡ map piece_of (take l.at l.pieces) ++ drop l.at l.fn.out
