-- The least fork that the rows so far show.
use Rattle.std.proofs.Common.{map, take}
use Rattle.dn_walk.specs.Rows.{row_view}
use Rattle.dn_walk.specs.Units.{IsLeastShown}
use Rattle.dn_walk.proofs.fork.least_fork.Given as goal

abbrev pub invariant-loop-row : goal.invariant-loop-row
invariant-loop-row l = IsLeastShown l.checked.net.now (map row_view (take l.row-index l.rows)) l.least
