-- The nodes so far and the rest.
use Rattle.std.proofs.Common.{◌≡◌, ◌+◌, ◌≤◌, drop}
use Rattle.dn_shape.specs.Split.{divided_count}
use Rattle.dn_shape.proofs.split.divided_count.Given as goal

abbrev pub invariant-loop-node : goal.invariant-loop-node
invariant-loop-node l = record {
  rest : l.count + divided_count (drop l.node l.net) ≡ divided_count l.net;
  few : l.count ≤ l.node;
}
