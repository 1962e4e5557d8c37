use Rattle.std.proofs.Common.{◌≡◌, drop, length, map}
use Rattle.dn_kind.specs.Units.{shape_fault, shape_fault_from}
use Rattle.dn_kind.proofs.units.check_units.Given as goal

abbrev pub invariant-loop-node : goal.invariant-loop-node
invariant-loop-node g l =
    let kinds = map (λ k. (goal.UnitKind-dyn g (k.vtable, k.value)).meaning k.value) l.kinds.list.items in
    record {
      last : l.node-end ≡ length l.net;
      same : shape_fault kinds l.net ≡ shape_fault_from kinds l.node (drop l.node l.net);
    }
