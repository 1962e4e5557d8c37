-- The names that the walks so far give.
use Rattle.std.proofs.Common.{◌≡◌, ℕ, map, take}
use Rattle.dn_interval.specs.declared.row.End.{End}
use Rattle.dn_interval.specs.Strands.{segs_give}
use Rattle.dn_walk.specs.Rows.{row_view}
use Rattle.dn_shape.specs.Past.{bare_give}
use Rattle.dn_shape.proofs.past.segs_of.Given as goal

abbrev pub invariant-loop-row : goal.invariant-loop-row
invariant-loop-row l = (a : ℕ) (y : End) → segs_give l.segs.items a y ≡ bare_give (map row_view (take l.row-index l.walks)) a y
