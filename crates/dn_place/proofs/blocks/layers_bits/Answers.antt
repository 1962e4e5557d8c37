use Rattle.std.proofs.Common.{◌≡◌, ◌^◌, List, true, subst}
use Rattle.dn_interval.specs.declared.row.Row.{Row}
use Rattle.dn_place.specs.Blocks.{rows_fit}
use Rattle.dn_place.proofs.BlockRows.{left_first, left_next, left_none}
use Rattle.dn_place.proofs.blocks.layers_bits.Goals as goal

pub loop-layer-init : goal.loop-layer-init
loop-layer-init c = left_first (λ block. rows_fit (2 ^ block)) c.args.layers.now c.args.bits

pub loop-layer-preserved : goal.loop-layer-preserved
loop-layer-preserved c =
    left_next (λ block. rows_fit (2 ^ block)) c.args.layers.now c.loop-layer.layer-index c.layer-item.result c.loop-layer.all c.rows_bits-all.result c.args.bits c.loop-layer-test.true
    (λ block e. let o = c.rows_bits-all.ensures block e in (o.0, subst (λ (x : List Row). rows_fit (2 ^ block) x ≡ true) c.layer-item.is o.1))
    c.loop-layer.invariant

pub returns : goal.returns
returns c = left_none (λ block. rows_fit (2 ^ block)) c.args.layers.now c.loop-layer.layer-index c.loop-layer.all c.args.bits c.loop-layer-test.false c.loop-layer.invariant
