use Rattle.std.proofs.Common.{drop}
use Rattle.dn_place.proofs.Unaccepted.{IsPassed}
use Rattle.dn_place.proofs.accepted.first_outside.Given as goal

abbrev pub invariant-loop-block : goal.invariant-loop-block
invariant-loop-block l = IsPassed l.base l.first l.blocks (drop l.block-index l.blocks)
