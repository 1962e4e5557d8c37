use Rattle.std.proofs.Common.{◌≡◌, ◌≤◌, ◌*◌, ◌^◌}
use Rattle.dn_net.specs.Decode.{unit_at}
use Rattle.dn_kind.specs.Kinded.{kinds_of}
use Rattle.dn_kind.specs.Tables.{record_held}
use Rattle.dn_tables.specs.Set.{words_of}
use Rattle.dn_tool.specs.Demo.{held_slots, sum_below}
use Rattle.dn_tool.proofs.demo.all_records.Given as goal

abbrev pub invariant-loop-node : goal.invariant-loop-node
invariant-loop-node g l = record {
  few : l.total ≤ l.node * 2 ^ 32;
  count : l.total ≡ sum_below (λ n. held_slots (record_held l.fn.machine.on.net.now (kinds_of (λ k. (goal.UnitKind-dyn g k).meaning k.1) l.fn.machine.on.kinds.now) (words_of l.tables)) n (unit_at l.fn.machine.on.net.now n)) l.node;
}
