-- The row's name is one more, or none.
use Rattle.std.proofs.Common.{◌∙◌, sym}
use Rattle.dn_walk.proofs.Least.{start_taken, start_left}
use Rattle.dn_walk.proofs.way.least_start.Goals.{then-counts, else-counts}
use Rattle.dn_walk.proofs.way.least_start.Goals as goal

pub loop-row-preserved : goal.loop-row-preserved
loop-row-preserved c =
    elim c.if-counts.branch [
      | then-counts w ↦ w.least-is ∙ w.lesser_name-least.ensures ∙ start_taken c.args.back c.args.rows.now c.loop-row.row-index c.row-item.result c.loop-row.least c.loop-row-test.true c.row-item.is (sym c.counts.ensures ∙ w.if-counts.true) c.loop-row.invariant
      | else-counts w ↦ w.least-is ∙ start_left c.args.back c.args.rows.now c.loop-row.row-index c.row-item.result c.loop-row.least c.loop-row-test.true c.row-item.is (sym c.counts.ensures ∙ w.if-counts.false) c.loop-row.invariant
    ]
