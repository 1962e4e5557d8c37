-- One node more.
use Rattle.std.proofs.Common.{◌≡◌, ◌∙◌, ◌+◌, nat_lt, drop, ap, sym, arith}
use Rattle.dn_net.proofs.Faults.{part_is}
use Rattle.dn_net.specs.Parts.{parts_of_node}
use Rattle.dn_shape.specs.Limits.{parts_of_net}
use Rattle.dn_shape.proofs.Read.{rest_at, passed_now, passed_later}
use Rattle.dn_shape.proofs.limits.has_many_parts.Goals as goal

pub returns-then-room-parts : goal.returns-then-room-parts
returns-then-room-parts c =
    let net = c.args.net.now in
    let r = rest_at net c.loop-node.node (omega (arith, c.nodes-node-end.ensures, c.loop-node-test.true)) in
    let parts : parts_of_node r.node ≡ c.parts_of_node-parts.result = part_is parts_of_node _ r.node c.parts_of_node-parts.result r.at c.parts_of_node-parts.ensures in
    sym (c.loop-node.invariant ∙ ap (λ l. nat_lt c.loop-node.room (parts_of_net l)) r.rest ∙ passed_now c.loop-node.room (parts_of_node r.node) (parts_of_net (drop (c.loop-node.node + 1) net)) (omega (arith, parts, c.if-room-parts.true)))

pub loop-node-preserved : goal.loop-node-preserved
loop-node-preserved c =
    let net = c.args.net.now in
    let r = rest_at net c.loop-node.node (omega (arith, c.nodes-node-end.ensures, c.loop-node-test.true)) in
    let parts : parts_of_node r.node ≡ c.parts_of_node-parts.result = part_is parts_of_node _ r.node c.parts_of_node-parts.result r.at c.parts_of_node-parts.ensures in
    c.loop-node.invariant ∙ ap (λ l. nat_lt c.loop-node.room (parts_of_net l)) r.rest ∙ passed_later c.loop-node.room (parts_of_node r.node) c.parts_of_node-parts.result (parts_of_net (drop (c.loop-node.node + 1) net)) parts (omega (arith, c.if-room-parts.false))
