-- What was added, and what the levels that are still to come show.
use Rattle.std.proofs.Common.{◌≡◌, ℕ, ◌+◌, ◌-◌, ◌&&◌, ◌||◌, drop}
use Rattle.dn_interval.specs.declared.row.End.{End}
use Rattle.dn_interval.specs.Spans.{in_span}
use Rattle.dn_interval.specs.Strands.{segs_give}
use Rattle.dn_flat.specs.Levels.{levels_show}
use Rattle.dn_flat.proofs.levels.push_shown.Given as goal

abbrev pub invariant-loop-level : goal.invariant-loop-level
invariant-loop-level l = (a : ℕ) (z : End) → (segs_give l.segs.items a z || (in_span l.seg.span a && levels_show l.nodes (drop l.level-index l.levels) (l.seg.base + (a - l.seg.span.lo)) z)) ≡ (segs_give l.initial.segs.items a z || (in_span l.seg.span a && levels_show l.nodes l.levels (l.seg.base + (a - l.seg.span.lo)) z))
