use Rattle.std.proofs.Common.{◌≡◌, ◌≤◌, is_some}
use Rattle.dn_net.specs.Rules.{count_below}
use Rattle.dn_kind.specs.Kinded.{kinds_of}
use Rattle.dn_kind.specs.Tables.{record_held}
use Rattle.dn_tables.specs.Set.{words_of}
use Rattle.dn_tool.proofs.demo.node_records.Given as goal

abbrev pub invariant-loop-slot : goal.invariant-loop-slot
invariant-loop-slot g l = record {
  few : l.total ≤ l.slot;
  count : l.total ≡ count_below (λ slot. is_some (record_held l.fn.machine.on.net.now (kinds_of (λ k. (goal.UnitKind-dyn g k).meaning k.1) l.fn.machine.on.kinds.now) (words_of l.tables) l.node slot)) l.slot;
}
