use Rattle.std.proofs.Common.{◌≡◌, ◌++◌, drop, length, map, IsTrue}
use Rattle.std.specs.String.{string_bytes}
use Rattle.dn_interval.specs.Listed.{seen_view}
use Rattle.dn_print.specs.Rows.{rows_text, ends_exist}
use Rattle.dn_print.proofs.rows.write_rows.Given as goal

abbrev pub invariant-loop-row : goal.invariant-loop-row
invariant-loop-row l = record {
  so_far : string_bytes l.out ++ rows_text l.net (map seen_view (drop l.row-index l.rows)) ≡ string_bytes l.initial.out ++ rows_text l.net (map seen_view l.rows);
  there : IsTrue (ends_exist (length l.net) (drop l.row-index l.rows));
}
