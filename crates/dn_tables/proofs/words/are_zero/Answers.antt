use Rattle.std.proofs.Common.{◌<◌, arith}
use Rattle.dn_tables.proofs.Values.{zero_next}
use Rattle.dn_tables.proofs.words.are_zero.Goals as goal

pub loop-at-preserved : goal.loop-at-preserved
loop-at-preserved c =
    let here : c.loop-at.at < c.args.width = let l = c.loop-at-test.true in let e = c.loop-at.invariant.last in omega arith in
    record {
      last = c.loop-at.invariant.last;
      zero = zero_next c.args.words.now c.args.first c.loop-at.at c.get.result (omega (arith, here, c.requires.room)) c.get.ensures c.if-get-ne0.false c.loop-at.invariant.zero;
    }
