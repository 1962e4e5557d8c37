-- What is told of the names before the place.
use Rattle.std.proofs.Common.{◌^◌}
use Rattle.dn_place.specs.Blocks.{end_fits}
use Rattle.dn_place.proofs.BlockRows.{Left}
use Rattle.dn_place.proofs.blocks.row_bits.Given as goal

abbrev pub invariant-loop-end : goal.invariant-loop-end
invariant-loop-end l = Left (λ block. end_fits (2 ^ block)) l.ends l.end-index l.all l.initial.all
