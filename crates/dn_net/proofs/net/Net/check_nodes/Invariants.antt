use Rattle.std.proofs.Common.{◌≡◌, drop, length}
use Rattle.dn_net.specs.Rules.{node_fault, node_fault_from}
use Rattle.dn_net.proofs.net.Net.check_nodes.Given as goal

abbrev pub invariant-loop-node : goal.invariant-loop-node
invariant-loop-node l = record {
  last : l.node-end ≡ length l.self;
  same : node_fault l.self ≡ node_fault_from l.node (drop l.node l.self);
}
