use Rattle.std.proofs.Common.{◌≡◌, ◌+◌, take, length, false}
use Rattle.dn_base.specs.Outside.{IsCounted}
use Rattle.dn_tables.specs.Writes.{AreWordsWritten, writes_from}
use Rattle.dn_tables.proofs.writes.write_all.Given as goal

abbrev pub invariant-loop-value : goal.invariant-loop-value
invariant-loop-value g l = record {
  at : l.word ≡ l.fn.first + l.value-index;
  written : AreWordsWritten l.fn.unit (writes_from l.fn.first (take l.value-index l.values)) false (g.D.Tables.log l.fn.device) (g.D.Tables.log l.device) (g.D.Tables.words l.fn.device) (g.D.Tables.words l.device) l.fn.words l.words;
  many : length l.words ≡ length l.fn.words;
  units : g.D.Tables.units l.device ≡ g.D.Tables.units l.fn.device;
  counted : IsCounted (g.D.Tables.faults l.fn.device) (g.D.Tables.faults l.device) false;
}
