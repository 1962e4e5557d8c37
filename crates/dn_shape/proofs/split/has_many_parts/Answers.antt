-- One node more.
use Rattle.std.proofs.Common.{◌≡◌, ◌∙◌, ◌+◌, nat_lt, drop, ap, sym, arith}
use Rattle.dn_net.proofs.Faults.{part_is}
use Rattle.dn_shape.specs.Split.{parts_of_split, parts_when_split}
use Rattle.dn_shape.proofs.Read.{rest_at, passed_now, passed_later}
use Rattle.dn_shape.proofs.split.has_many_parts.Goals as goal

pub returns-then-room-parts : goal.returns-then-room-parts
returns-then-room-parts c =
    let net = c.args.checked.net.now in
    let r = rest_at net c.loop-node.node (omega (arith, c.nodes-node-end.ensures, c.loop-node-test.true)) in
    let parts : parts_when_split r.node ≡ c.in_ok-parts.parts = part_is parts_when_split _ r.node c.in_ok-parts.parts r.at c.in_ok-parts.ensures in
    sym (c.loop-node.invariant ∙ ap (λ l. nat_lt c.loop-node.room (parts_of_split l)) r.rest ∙ passed_now c.loop-node.room (parts_when_split r.node) (parts_of_split (drop (c.loop-node.node + 1) net)) (omega (arith, parts, c.if-room-parts.true)))

pub loop-node-preserved : goal.loop-node-preserved
loop-node-preserved c =
    let net = c.args.checked.net.now in
    let r = rest_at net c.loop-node.node (omega (arith, c.nodes-node-end.ensures, c.loop-node-test.true)) in
    let parts : parts_when_split r.node ≡ c.in_ok-parts.parts = part_is parts_when_split _ r.node c.in_ok-parts.parts r.at c.in_ok-parts.ensures in
    c.loop-node.invariant ∙ ap (λ l. nat_lt c.loop-node.room (parts_of_split l)) r.rest ∙ passed_later c.loop-node.room (parts_when_split r.node) c.in_ok-parts.parts (parts_of_split (drop (c.loop-node.node + 1) net)) parts (omega (arith, c.if-room-parts.false))
