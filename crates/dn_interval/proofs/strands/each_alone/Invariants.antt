-- The strands so far give what the segments so far give.
use Rattle.std.proofs.Common.{◌≡◌, ℕ, take}
use Rattle.dn_interval.specs.declared.row.End.{End}
use Rattle.dn_interval.specs.Strands.{strands_give, segs_give}
use Rattle.dn_interval.proofs.strands.each_alone.Given as goal

abbrev pub invariant-loop-seg : goal.invariant-loop-seg
invariant-loop-seg l = (a : ℕ) (y : End) → strands_give l.strands.items a y ≡ segs_give (take l.seg-index l.segs) a y
