-- By the parts of the node.
use Rattle.std.proofs.Common.{◌≡◌, ◌∙◌, Some, ap, option_map, arith}
use Rattle.dn_net.specs.Parts.{parts_of_node}
use Rattle.dn_net.proofs.Faults.{part_is}
use Rattle.dn_shape.specs.Limits.{node_of_few_parts}
use Rattle.dn_shape.proofs.Limited.{node_in_room, node_past_room}
use Rattle.dn_shape.proofs.Read.{rest_at}
use Rattle.dn_shape.proofs.absorb.node_kept.Goals as goal

pub returns-then-room-parts_of_node : goal.returns-then-room-parts_of_node
returns-then-room-parts_of_node c =
    let r = rest_at c.args.net.now c.args.node c.requires in
    let parts : parts_of_node r.node ≡ c.parts_of_node.result = part_is parts_of_node _ r.node c.parts_of_node.result r.at c.parts_of_node.ensures in
    ap (option_map (node_of_few_parts c.args.room)) r.at ∙ ap Some (node_past_room c.args.room r.node (omega (arith, parts, c.if-room-parts_of_node.true)))

pub returns : goal.returns
returns c =
    let n = c.in_ok-node_copy.field-0 in
    let parts : parts_of_node n ≡ c.parts_of_node.result = part_is parts_of_node _ n c.parts_of_node.result c.in_ok-node_copy.ensures c.parts_of_node.ensures in
    ap (option_map (node_of_few_parts c.args.room)) c.in_ok-node_copy.ensures ∙ ap Some (node_in_room c.args.room n (omega (arith, parts, c.if-room-parts_of_node.false)))
