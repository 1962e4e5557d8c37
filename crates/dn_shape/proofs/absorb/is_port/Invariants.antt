-- None of the nodes so far has the port.
use Rattle.std.proofs.Common.{◌≡◌, drop}
use Rattle.dn_shape.specs.Absorb.{is_port}
use Rattle.dn_shape.proofs.absorb.is_port.Given as goal

abbrev pub invariant-loop-node : goal.invariant-loop-node
invariant-loop-node l = is_port l.net l.port ≡ is_port (drop l.node l.net) l.port
