-- The nodes so far and the rest.
use Rattle.std.proofs.Common.{◌≡◌, ◌+◌, ◌++◌, length, drop}
use Rattle.dn_shape.specs.Split.{divided_count, sending_nodes}
use Rattle.dn_shape.proofs.split.sending_nodes.Given as goal

abbrev pub invariant-loop-node : goal.invariant-loop-node
invariant-loop-node l = record {
  rest : l.made ++ sending_nodes l.next (drop l.node l.net) ≡ sending_nodes (length l.net) l.net;
  next : l.next + divided_count (drop l.node l.net) ≡ length l.net + divided_count l.net;
  count : length l.made ≡ l.node;
}
