-- The levels so far give nothing.
use Rattle.std.proofs.Common.{◌≡◌, drop}
use Rattle.dn_interval.specs.declared.row.End.{End}
use Rattle.dn_flat.specs.Levels.{levels_give}
use Rattle.dn_place.proofs.entry.stop_of.Given as goal

abbrev pub invariant-loop-level : goal.invariant-loop-level
invariant-loop-level l = (z : End) → levels_give l.levels l.a z ≡ levels_give (drop l.level-index l.levels) l.a z
