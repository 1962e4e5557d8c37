use Rattle.std.proofs.Common.{◌≡◌, ◌^◌, List, true, subst}
use Rattle.dn_interval.specs.declared.row.Row.{Row}
use Rattle.dn_place.specs.Blocks.{Tells, row_fits, rows_fit}
use Rattle.dn_place.proofs.BlockRows.{left_first, left_next, left_none}
use Rattle.dn_place.proofs.blocks.rows_bits.Goals as goal

pub loop-row-init : goal.loop-row-init
loop-row-init c = left_first (λ block. row_fits (2 ^ block)) c.rows-rows.result.now c.args.bits

pub loop-row-preserved : goal.loop-row-preserved
loop-row-preserved c =
    left_next (λ block. row_fits (2 ^ block)) c.rows-rows.result.now c.loop-row.row-index c.row-item.result c.loop-row.all c.row_bits-all.result c.args.bits c.loop-row-test.true
    (λ block e. let o = c.row_bits-all.ensures block e in (o.0, subst (λ (x : Row). row_fits (2 ^ block) x ≡ true) c.row-item.is o.1))
    c.loop-row.invariant

pub returns : goal.returns
returns c = subst (λ (rs : List Row). Tells c.loop-row.all c.args.bits (λ block. rows_fit (2 ^ block) rs ≡ true)) c.rows-rows.ensures.value
    (left_none (λ block. row_fits (2 ^ block)) c.rows-rows.result.now c.loop-row.row-index c.loop-row.all c.args.bits c.loop-row-test.false c.loop-row.invariant)
