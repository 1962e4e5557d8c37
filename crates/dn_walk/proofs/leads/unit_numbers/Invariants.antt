-- The units so far, and those that are left.
use Rattle.std.proofs.Common.{◌≡◌, ◌++◌, drop, length}
use Rattle.dn_net.specs.UnitRules.{unit_numbers, units_from}
use Rattle.dn_walk.proofs.leads.unit_numbers.Given as goal

abbrev pub invariant-loop-node : goal.invariant-loop-node
invariant-loop-node l = record {
  last : l.node-end ≡ length l.net;
  same : unit_numbers l.net ≡ l.units.items ++ units_from l.node (drop l.node l.net);
}
