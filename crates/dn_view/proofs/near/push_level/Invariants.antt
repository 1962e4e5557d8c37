-- What was added, and what the rows that are still to come add.
use Rattle.std.proofs.Common.{◌≡◌, ℕ, ◌||◌, drop}
use Rattle.dn_interval.specs.declared.row.End.{End}
use Rattle.dn_interval.specs.Strands.{segs_give}
use Rattle.dn_view.specs.Near.{rows_near}
use Rattle.dn_view.proofs.near.push_level.Given as goal

abbrev pub invariant-loop-row : goal.invariant-loop-row
invariant-loop-row l = (a : ℕ) (z : End) → (segs_give l.segs.items a z || rows_near l.target l.size (drop l.row-index l.all) a z) ≡ (segs_give l.initial.segs.items a z || rows_near l.target l.size l.all a z)
