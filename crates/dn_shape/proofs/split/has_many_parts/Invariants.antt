-- What is left of the limit, for the rest of the nodes.
use Rattle.std.proofs.Common.{◌≡◌, nat_lt, drop}
use Rattle.dn_shape.specs.Limits.{part_limit}
use Rattle.dn_shape.specs.Split.{parts_of_split}
use Rattle.dn_shape.proofs.split.has_many_parts.Given as goal

abbrev pub invariant-loop-node : goal.invariant-loop-node
invariant-loop-node l = nat_lt part_limit (parts_of_split l.checked.net.now) ≡ nat_lt l.room (parts_of_split (drop l.node l.checked.net.now))
