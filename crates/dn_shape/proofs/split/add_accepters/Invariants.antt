-- The nodes so far and the rest.
use Rattle.std.proofs.Common.{◌≡◌, ◌+◌, ◌≤◌, length, drop}
use Rattle.dn_net.specs.Legal.{node_limit}
use Rattle.dn_shape.specs.Split.{divided_count, with_accepters}
use Rattle.dn_shape.proofs.split.add_accepters.Given as goal

abbrev pub invariant-loop-node : goal.invariant-loop-node
invariant-loop-node l = record {
  rest : with_accepters l.made (drop l.node l.checked.net.now) ≡ with_accepters l.initial.made l.checked.net.now;
  few : length l.made + divided_count (drop l.node l.checked.net.now) ≤ node_limit;
}
