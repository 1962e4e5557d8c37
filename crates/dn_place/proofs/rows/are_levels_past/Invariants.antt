-- The levels so far give nothing to the stretch.
use Rattle.std.proofs.Common.{drop}
use Rattle.dn_flat.specs.Levels.{levels_give}
use Rattle.dn_place.specs.Rows.{GivesNone}
use Rattle.dn_place.proofs.rows.are_levels_past.Given as goal

abbrev pub invariant-loop-level : goal.invariant-loop-level
invariant-loop-level l = record {
  clear : GivesNone (levels_give (drop l.level-index l.levels)) l.a l.size → GivesNone (levels_give l.levels) l.a l.size;
  rest : GivesNone (levels_give l.levels) l.a l.size → GivesNone (levels_give (drop l.level-index l.levels)) l.a l.size;
}
