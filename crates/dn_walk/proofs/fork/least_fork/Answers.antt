-- One row more.
use Rattle.std.proofs.Common.{subst, map}
use Rattle.std.proofs.lemmas.List.{take_all}
use Rattle.dn_walk.specs.Rows.{row_view}
use Rattle.dn_walk.specs.Units.{IsLeastShown}
use Rattle.dn_walk.proofs.Shown.{shown_at}
use Rattle.dn_walk.proofs.fork.least_fork.Goals as goal

pub loop-row-init : goal.loop-row-init
loop-row-init c = λ t m. absurd m

pub loop-row-preserved : goal.loop-row-preserved
loop-row-preserved c = shown_at c.args.checked.net.now c.args.rows.now c.loop-row.row-index c.row-item.result c.loop-row.least _ c.loop-row-test.true c.row-item.is c.lesser_shown-least.ensures c.loop-row.invariant

pub returns : goal.returns
returns c = subst (λ rows. IsLeastShown c.args.checked.net.now (map row_view rows) c.loop-row.least) (take_all c.loop-row.row-index c.args.rows.now c.loop-row-test.false) c.loop-row.invariant
