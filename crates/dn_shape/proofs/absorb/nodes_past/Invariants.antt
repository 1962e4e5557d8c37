-- The nodes so far and the rest, and the room for the rest.
use Rattle.std.proofs.Common.{◌≡◌, ◌++◌, nat_lt, length, drop}
use Rattle.dn_shape.specs.Absorb.{nodes_past, net_past}
use Rattle.dn_shape.specs.Limits.{part_limit, parts_of_net}
use Rattle.dn_shape.proofs.absorb.nodes_past.Given as goal

abbrev pub invariant-loop-node : goal.invariant-loop-node
invariant-loop-node l = record {
  rest : l.made ++ nodes_past l.net l.past l.node (drop l.node l.net) ≡ net_past l.net l.past;
  count : length l.made ≡ l.node;
  parts : nat_lt part_limit (parts_of_net (net_past l.net l.past)) ≡ nat_lt l.room (parts_of_net (nodes_past l.net l.past l.node (drop l.node l.net)));
}
