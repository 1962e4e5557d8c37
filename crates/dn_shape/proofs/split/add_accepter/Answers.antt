-- There is room, and the name is free.
use Rattle.std.proofs.Common.{◌≡◌, ◌∙◌, if◌then◌else◌, ap, arith}
use Rattle.dn_net.proofs.Faults.{part_is}
use Rattle.dn_shape.specs.Split.{is_divided, new_nodes}
use Rattle.dn_shape.proofs.Read.{rest_at}
use Rattle.dn_shape.proofs.Sending.{accepter_new}
use Rattle.dn_shape.proofs.split.add_accepter.Goals as goal

pub add-requires-clause-room : goal.add-requires-clause-room
add-requires-clause-room c =
    let r = rest_at c.args.checked.net.now c.args.checked.node c.args.checked.there in
    let one : new_nodes r.node ≡ 1 = ap (λ b. if b then 1 else 0) (part_is is_divided _ r.node c.is_divided.result r.at c.is_divided.ensures ∙ c.if-is_divided.true) in
    omega (arith, one, c.requires.few r.node r.at)

pub add-requires-clause-new_name : goal.add-requires-clause-new_name
add-requires-clause-new_name c =
    let r = rest_at c.args.checked.net.now c.args.checked.node c.args.checked.there in
    accepter_new c.args.made.now r.node c.in_ok-decl.decl (omega (arith, c.requires.few r.node r.at)) (part_is _ _ r.node c.in_ok-decl.decl r.at c.in_ok-decl.ensures)
