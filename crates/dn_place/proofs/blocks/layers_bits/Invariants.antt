-- What is told of those before the place.
use Rattle.std.proofs.Common.{◌^◌}
use Rattle.dn_place.specs.Blocks.{rows_fit}
use Rattle.dn_place.proofs.BlockRows.{Left}
use Rattle.dn_place.proofs.blocks.layers_bits.Given as goal

abbrev pub invariant-loop-layer : goal.invariant-loop-layer
invariant-loop-layer l = Left (λ block. rows_fit (2 ^ block)) l.layers l.layer-index l.all l.bits
