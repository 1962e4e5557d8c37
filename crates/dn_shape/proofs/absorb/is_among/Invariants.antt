-- None of the ports so far is the node.
use Rattle.std.proofs.Common.{◌≡◌, ◌==◌, drop}
use Rattle.std.specs.List.{list_any}
use Rattle.dn_shape.proofs.absorb.is_among.Given as goal

abbrev pub invariant-loop-p : goal.invariant-loop-p
invariant-loop-p l = list_any (λ p. p == l.port) l.ports ≡ list_any (λ p. p == l.port) (drop l.p-index l.ports)
