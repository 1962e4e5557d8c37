-- What was added, and what the layers give that are still to come.
use Rattle.std.proofs.Common.{◌≡◌, ℕ, ◌+◌, ◌-◌, ◌&&◌, ◌||◌, drop}
use Rattle.dn_interval.specs.declared.row.End.{End}
use Rattle.dn_interval.specs.Spans.{in_span}
use Rattle.dn_interval.specs.Strands.{segs_give}
use Rattle.dn_flat.specs.Levels.{levels_give}
use Rattle.dn_flat.proofs.levels.push_given.Given as goal

abbrev pub invariant-loop-layer : goal.invariant-loop-layer
invariant-loop-layer l = (a : ℕ) (z : End) → (segs_give l.segs.items a z || (in_span l.seg.span a && levels_give (drop l.layer-index l.layers) (l.seg.base + (a - l.seg.span.lo)) z)) ≡ (segs_give l.initial.segs.items a z || (in_span l.seg.span a && levels_give l.layers (l.seg.base + (a - l.seg.span.lo)) z))
