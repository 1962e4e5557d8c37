-- One node more.
use Rattle.std.proofs.Common.{◌∙◌, ◌+◌, ◌||◌, ap, sym, drop, slice_get, arith}
use Rattle.dn_shape.specs.Absorb.{is_port}
use Rattle.dn_shape.proofs.Read.{rest_at, port_by}
use Rattle.dn_shape.proofs.absorb.is_port.Goals as goal

pub returns-then-has_port : goal.returns-then-has_port
returns-then-has_port c =
    let r = rest_at c.args.net.now c.loop-node.node (omega (arith, c.nodes-node-end.ensures, c.loop-node-test.true)) in
    let port = port_by c.args.port r.node (slice_get c.args.net.now c.loop-node.node) _ r.at c.unit.ensures ∙ sym c.has_port.ensures ∙ c.if-has_port.true in
    sym (c.loop-node.invariant ∙ ap (λ l. is_port l c.args.port) r.rest ∙ ap (λ b. b || is_port (drop (c.loop-node.node + 1) c.args.net.now) c.args.port) port)

pub loop-node-preserved : goal.loop-node-preserved
loop-node-preserved c =
    let r = rest_at c.args.net.now c.loop-node.node (omega (arith, c.nodes-node-end.ensures, c.loop-node-test.true)) in
    let port = port_by c.args.port r.node (slice_get c.args.net.now c.loop-node.node) _ r.at c.unit.ensures ∙ sym c.has_port.ensures ∙ c.if-has_port.false in
    c.loop-node.invariant ∙ ap (λ l. is_port l c.args.port) r.rest ∙ ap (λ b. b || is_port (drop (c.loop-node.node + 1) c.args.net.now) c.args.port) port
