-- What is told of those before the place.
use Rattle.std.proofs.Common.{◌^◌}
use Rattle.dn_place.specs.Blocks.{row_fits}
use Rattle.dn_place.proofs.BlockRows.{Left}
use Rattle.dn_place.proofs.blocks.rows_bits.Given as goal

abbrev pub invariant-loop-row : goal.invariant-loop-row
invariant-loop-row l = Left (λ block. row_fits (2 ^ block)) l.rows l.row-index l.all l.bits
