-- The names so far are those of the strands so far.
use Rattle.std.proofs.Common.{◌≡◌, ℕ, ◌≤◌, take, length}
use Rattle.dn_interval.specs.declared.row.End.{End}
use Rattle.dn_interval.specs.Strands.{ends_give, slides_give}
use Rattle.dn_interval.proofs.rows.ends_at.Given as goal

abbrev pub invariant-loop-strand : goal.invariant-loop-strand
invariant-loop-strand l = record {
  len : length l.ends.items ≡ l.strand-index;
  gives : (a : ℕ) (y : End) → l.from ≤ a → ends_give l.ends.items l.from a y ≡ slides_give (take l.strand-index l.running) a y;
}
