-- A row for each node so far.
use Rattle.std.proofs.Common.{◌≡◌, map}
use Rattle.dn_walk.specs.Rows.{row_view}
use Rattle.dn_walk.specs.Levels.{bare_still_walks}
use Rattle.dn_walk.proofs.level.still_rows.Given as goal

abbrev pub invariant-loop-node : goal.invariant-loop-node
invariant-loop-node l = map row_view l.rows.items ≡ bare_still_walks 0 l.node
