-- None of the destinations so far is in the node.
use Rattle.std.proofs.Common.{◌≡◌, ◌==◌, drop}
use Rattle.std.specs.List.{list_any}
use Rattle.dn_shape.proofs.absorb.has_dest_in.Given as goal

abbrev pub invariant-loop-dest : goal.invariant-loop-dest
invariant-loop-dest l = list_any (λ d. d.node == l.to) l.dests ≡ list_any (λ d. d.node == l.to) (drop l.dest-index l.dests)
