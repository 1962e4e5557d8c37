-- The least of the names so far.
use Rattle.std.proofs.Common.{◌≡◌, map, take}
use Rattle.dn_walk.specs.Rows.{row_view}
use Rattle.dn_walk.specs.Ways.{least_of, start_names}
use Rattle.dn_walk.proofs.way.least_start.Given as goal

abbrev pub invariant-loop-row : goal.invariant-loop-row
invariant-loop-row l = l.least ≡ least_of (start_names l.back (map row_view (take l.row-index l.rows)))
