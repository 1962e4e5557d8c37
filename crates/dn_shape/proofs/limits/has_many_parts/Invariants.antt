-- What is left of the limit, for the rest of the nodes.
use Rattle.std.proofs.Common.{◌≡◌, nat_lt, drop}
use Rattle.dn_shape.specs.Limits.{part_limit, parts_of_net}
use Rattle.dn_shape.proofs.limits.has_many_parts.Given as goal

abbrev pub invariant-loop-node : goal.invariant-loop-node
invariant-loop-node l = nat_lt part_limit (parts_of_net l.net) ≡ nat_lt l.room (parts_of_net (drop l.node l.net))
