-- A row for each leg so far.
use Rattle.std.proofs.Common.{◌≡◌, ◌++◌, map, take}
use Rattle.dn_walk.specs.Legs.{leg_view}
use Rattle.dn_walk.specs.Rows.{row_view}
use Rattle.dn_walk.specs.Levels.{bare_onto}
use Rattle.dn_walk.proofs.level.extend_row.Given as goal

abbrev pub invariant-loop-leg : goal.invariant-loop-leg
invariant-loop-leg l = map row_view l.out.items ≡ map row_view l.initial.out.items ++ map (bare_onto (row_view l.row)) (map leg_view (take l.leg-index l.met))
