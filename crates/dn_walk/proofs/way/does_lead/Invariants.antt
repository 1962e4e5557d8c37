-- No row so far leads from the name to the goal.
use Rattle.std.proofs.Common.{◌≡◌, map, take, false}
use Rattle.dn_walk.specs.Rows.{row_view}
use Rattle.dn_walk.specs.Ways.{level_leads}
use Rattle.dn_walk.proofs.way.does_lead.Given as goal

abbrev pub invariant-loop-row : goal.invariant-loop-row
invariant-loop-row l = level_leads l.goal (map row_view (take l.row-index l.row-items)) l.name ≡ false
