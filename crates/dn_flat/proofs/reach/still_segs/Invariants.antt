-- The segments of the spans so far.
use Rattle.std.proofs.Common.{◌≡◌, ℕ, take}
use Rattle.dn_interval.specs.declared.row.End.{End}
use Rattle.dn_interval.specs.Strands.{segs_give}
use Rattle.dn_flat.specs.Firsts.{stays}
use Rattle.dn_flat.proofs.reach.still_segs.Given as goal

abbrev pub invariant-loop-span : goal.invariant-loop-span
invariant-loop-span l = (a : ℕ) (y : End) → segs_give l.segs.items a y ≡ stays (take l.span-index l.spans) l.node a y
