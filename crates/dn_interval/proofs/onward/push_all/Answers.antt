-- What is left of the rows ends before the segment comes out, or begins behind it.
use Rattle.std.proofs.Common.{arith}
use Rattle.dn_interval.proofs.Cuts.{all_cut, rest_behind}
use Rattle.dn_interval.proofs.onward.push_all.Goals as goal

pub returns-then-last-row-clause-ok : goal.returns-then-last-row-clause-ok
returns-then-last-row-clause-ok c =
    rest_behind c.rows-all.result.now c.args.rows.now c.args.seg c.ended_before.result c.loop-row.row-index c.args.segs.now.items c.loop-row.segs.items c.rows-all.ensures.value c.rows-all.ensures.apart c.ended_before.ensures.place.0 c.loop-row.invariant.ok c.row-item.result c.loop-row-test.true c.row-item.is (omega arith)

pub returns-clause-ok : goal.returns-clause-ok
returns-clause-ok c = all_cut c.rows-all.result.now c.args.rows.now c.args.seg c.ended_before.result c.loop-row.row-index c.args.segs.now.items c.loop-row.segs.items c.rows-all.ensures.value c.rows-all.ensures.apart c.ended_before.ensures.place.0 c.loop-row.invariant.ok c.loop-row-test.false
