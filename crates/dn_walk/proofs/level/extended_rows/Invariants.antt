-- What the rows so far go on to, and no more of it than there is room for.
use Rattle.std.proofs.Common.{◌≡◌, ◌≤◌, map, take, vec_len}
use Rattle.std.specs.List.{flat_map}
use Rattle.dn_walk.specs.Rows.{row_view}
use Rattle.dn_walk.specs.Levels.{bare_extensions}
use Rattle.dn_walk.proofs.level.extended_rows.Given as goal

abbrev pub invariant-loop-row : goal.invariant-loop-row
invariant-loop-row l = record {
  made : map row_view l.out.items ≡ flat_map (bare_extensions l.legs) (map row_view (take l.row-index l.rows));
  fits : vec_len l.out ≤ l.room;
}
