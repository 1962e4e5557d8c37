-- The lowest addresses from which the rows so far lead.
use Rattle.std.proofs.Common.{map, take}
use Rattle.dn_walk.specs.Rows.{row_view}
use Rattle.dn_walk.specs.Units.{AreLows}
use Rattle.dn_walk.proofs.leads.lows.Given as goal

abbrev pub invariant-loop-row : goal.invariant-loop-row
invariant-loop-row l = AreLows l.nodes (map row_view (take l.row-index l.rows)) l.lows.items
