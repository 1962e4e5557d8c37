-- The least of the names so far that lead to the goal.
use Rattle.std.proofs.Common.{◌≡◌, map, take}
use Rattle.std.specs.List.{filter}
use Rattle.dn_net.specs.Decode.{dest_name}
use Rattle.dn_walk.specs.Rows.{row_view}
use Rattle.dn_walk.specs.Ways.{least_of, level_leads}
use Rattle.dn_walk.proofs.way.least_leading.Given as goal

abbrev pub invariant-loop-dest : goal.invariant-loop-dest
invariant-loop-dest l = l.least ≡ least_of (filter (level_leads l.goal (map row_view l.level)) (map (dest_name l.offset) (take l.dest-index l.dests)))
