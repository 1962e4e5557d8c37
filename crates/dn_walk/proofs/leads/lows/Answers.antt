-- One row more.
use Rattle.std.proofs.Common.{◌∙◌, ap, ◌*◌, ◌+◌}
use Rattle.dn_walk.proofs.Lows.{lows_at}
use Rattle.dn_walk.proofs.leads.lows.Goals as goal

pub loop-row-preserved : goal.loop-row-preserved
loop-row-preserved c =
    lows_at c.args.nodes c.args.rows.now c.loop-row.row-index c.row-item.result c.loop-row.lows.items c.lower.new.lows.items _ c.loop-row-test.true c.row-item.is c.requires.starts c.requires.ends
    (ap (λ n. n * c.args.nodes + c.from-in-loop-row.result) c.from.ensures ∙ ap (λ n. c.row-item.result.start * c.args.nodes + n) c.from-in-loop-row.ensures)
    c.lower.ensures c.loop-row.invariant
