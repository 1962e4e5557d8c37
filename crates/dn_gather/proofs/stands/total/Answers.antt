use Rattle.std.proofs.Common.{arith}
use Rattle.dn_gather.proofs.Standing.{total_few, total_none, total_step}
use Rattle.dn_gather.proofs.stands.total.Goals as goal

pub overflow_add-sum : goal.overflow_add-sum
overflow_add-sum c =
    let ps = c.args.pieces.now in
    omega (arith, c.loop-piece.invariant, total_step ps c.loop-piece.piece-index (record { id = 0; node = 0; base = 0; size = 0 }) c.loop-piece-test.true, total_few ps c.requires.each, c.requires.most)

pub loop-piece-preserved : goal.loop-piece-preserved
loop-piece-preserved c =
    let ps = c.args.pieces.now in
    omega (arith, c.loop-piece.invariant, total_step ps c.loop-piece.piece-index (record { id = 0; node = 0; base = 0; size = 0 }) c.loop-piece-test.true)

pub returns-clause-sum : goal.returns-clause-sum
returns-clause-sum c = omega (arith, c.loop-piece.invariant, total_none c.args.pieces.now c.loop-piece.piece-index c.loop-piece-test.false)

pub returns-clause-few : goal.returns-clause-few
returns-clause-few c = omega (arith, c.loop-piece.invariant, total_none c.args.pieces.now c.loop-piece.piece-index c.loop-piece-test.false, total_few c.args.pieces.now c.requires.each, c.requires.most)
