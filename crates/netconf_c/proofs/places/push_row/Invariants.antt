-- The names of the row so far, and those that are still to come.
use Rattle.std.proofs.Common.{◌≡◌, ◌++◌, drop, map}
use Rattle.netconf_c.specs.Seeing.{row_at}
use Rattle.netconf_c.proofs.places.push_row.Given as goal

abbrev pub invariant-loop-end : goal.invariant-loop-end
invariant-loop-end l = l.all.items ++ map (row_at l.row) (drop l.end-index l.ends) ≡ l.initial.all.items ++ map (row_at l.row) l.ends
