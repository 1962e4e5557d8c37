-- None of the nodes so far has such an entry.
use Rattle.std.proofs.Common.{◌≡◌, drop}
use Rattle.std.specs.List.{list_any}
use Rattle.dn_shape.specs.Limits.{has_long_entry}
use Rattle.dn_shape.proofs.limits.has_long_entry.Given as goal

abbrev pub invariant-loop-node : goal.invariant-loop-node
invariant-loop-node l = list_any has_long_entry l.net ≡ list_any has_long_entry (drop l.node l.net)
