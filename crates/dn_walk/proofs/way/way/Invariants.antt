-- The names so far, and those that are still to come, are the way.
use Rattle.std.proofs.Common.{◌≡◌, ◌<◌, ◌≤◌, ◌++◌, ◌∷◌, map, length}
use Rattle.dn_net.specs.Decode.{steps}
use Rattle.dn_net.specs.WalkRules.{way_by}
use Rattle.dn_walk.specs.Rows.{row_view}
use Rattle.dn_walk.specs.Ways.{walk_levels_lead}
use Rattle.dn_walk.proofs.way.way.Given as goal

abbrev pub invariant-loop-left : goal.invariant-loop-left
invariant-loop-left l = record {
  within : l.left ≤ length l.levels;
  there : l.name.node < length l.checked.net.now;
  way : l.names ++ way_by (steps l.checked.net.now) (walk_levels_lead l.goal (map (map row_view) l.levels)) l.left l.name ≡ l.fn.first ∷ way_by (steps l.checked.net.now) (walk_levels_lead l.goal (map (map row_view) l.levels)) (length l.levels) l.fn.first;
}

abbrev pub decreases-loop-left : goal.decreases-loop-left
decreases-loop-left l = l.left
