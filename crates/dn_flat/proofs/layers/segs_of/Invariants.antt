-- The segments so far give what the strands so far give.
use Rattle.std.proofs.Common.{◌≡◌, ℕ, take}
use Rattle.dn_interval.specs.declared.row.End.{End}
use Rattle.dn_interval.specs.Strands.{segs_give, strands_give}
use Rattle.dn_flat.proofs.layers.segs_of.Given as goal

abbrev pub invariant-loop-strand : goal.invariant-loop-strand
invariant-loop-strand l = (a : ℕ) (z : End) → segs_give l.segs.items a z ≡ strands_give (take l.strand-index l.strands) a z
