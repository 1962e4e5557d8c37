-- The strands so far, the current one and the rest are what all of them are.
use Rattle.std.proofs.Common.{drop}
use Rattle.dn_interval.specs.Strands.{strands_give}
use Rattle.dn_interval.proofs.Following.{Joining}
use Rattle.dn_interval.proofs.strands.joined_strands.Given as goal

abbrev pub invariant-loop-strand : goal.invariant-loop-strand
invariant-loop-strand l = Joining l.out.items l.current (drop l.strand-index l.rest) (strands_give l.strands)
