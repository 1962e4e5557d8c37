use Rattle.std.proofs.Common.{◌^◌}
use Rattle.dn_place.specs.Blocks.{end_fits}
use Rattle.dn_place.proofs.BlockRows.{left_first, left_next, left_none, row_told}
use Rattle.dn_place.proofs.blocks.row_bits.Goals as goal

pub loop-end-init : goal.loop-end-init
loop-end-init c = left_first (λ block. end_fits (2 ^ block)) c.ends-ends.result.now _

pub loop-end-preserved : goal.loop-end-preserved
loop-end-preserved c =
    left_next (λ block. end_fits (2 ^ block)) c.ends-ends.result.now c.loop-end.end-index (record { node = 0; base = 0 }) c.loop-end.all c.end_bits-all.result _ c.loop-end-test.true c.end_bits-all.ensures c.loop-end.invariant

pub returns : goal.returns
returns c = row_told c.args.row.now c.span-span.result c.ends-ends.result.now c.args.bits c.loop-end.all c.span-span.ensures c.ends-ends.ensures (left_none (λ block. end_fits (2 ^ block)) c.ends-ends.result.now c.loop-end.end-index c.loop-end.all _ c.loop-end-test.false c.loop-end.invariant)
