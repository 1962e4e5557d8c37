use Rattle.std.proofs.Common.{◌≡◌, drop, true}
use Rattle.dn_base.specs.Device.{has_unit, sizes_of, words_of_unit}
use Rattle.dn_base.proofs.memory_tables.MemTables.words.Given as goal

abbrev pub invariant-loop-table : goal.invariant-loop-table
invariant-loop-table l = record {
  there : has_unit (sizes_of (drop l.table-index l.self.tables)) l.unit ≡ true;
  same : words_of_unit (drop l.table-index l.self.tables) l.unit ≡ words_of_unit l.self.tables l.unit;
}
