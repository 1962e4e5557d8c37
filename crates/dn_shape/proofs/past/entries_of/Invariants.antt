-- An entry for each row so far.
use Rattle.std.proofs.Common.{◌≡◌, map, take}
use Rattle.dn_interval.specs.Listed.{seen_view}
use Rattle.dn_shape.specs.Absorb.{entry_of_row}
use Rattle.dn_shape.proofs.past.entries_of.Given as goal

abbrev pub invariant-loop-row : goal.invariant-loop-row
invariant-loop-row l = l.entries.items ≡ map entry_of_row (map seen_view (take l.row-index l.rows))
