-- What was added, and what the levels that are still to come add.
use Rattle.std.proofs.Common.{◌≡◌, ℕ, ◌||◌, drop}
use Rattle.dn_interval.specs.declared.row.End.{End}
use Rattle.dn_interval.specs.Strands.{segs_give}
use Rattle.dn_view.specs.Near.{levels_near}
use Rattle.dn_view.proofs.near.push_near.Given as goal

abbrev pub invariant-loop-level : goal.invariant-loop-level
invariant-loop-level l = (a : ℕ) (z : End) → (segs_give l.segs.items a z || levels_near l.target l.size (drop l.level-index l.levels) a z) ≡ (segs_give l.initial.segs.items a z || levels_near l.target l.size l.levels a z)
