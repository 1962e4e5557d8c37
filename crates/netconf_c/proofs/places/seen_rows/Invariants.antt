-- The rows so far, and those that are still to come.
use Rattle.std.proofs.Common.{◌≡◌, ◌++◌, drop}
use Rattle.netconf_c.specs.Seeing.{seen_rows}
use Rattle.netconf_c.proofs.places.seen_rows.Given as goal

abbrev pub invariant-loop-row : goal.invariant-loop-row
invariant-loop-row l = l.all.items ++ seen_rows (drop l.row-index l.rows) ≡ seen_rows l.rows
