-- One node more.
use Rattle.std.proofs.Common.{◌∙◌, ◌<◌, ◌++◌, ◌∷◌, [], sym, ap, map, length, arith}
use Rattle.std.proofs.lemmas.List.{map-append}
use Rattle.dn_walk.specs.Legs.{leg_view}
use Rattle.dn_walk.proofs.Nodes.{legs_at}
use Rattle.dn_walk.proofs.leg.net_legs.Goals as goal

pub loop-node-preserved : goal.loop-node-preserved
loop-node-preserved c =
    let net = c.args.checked.net.now in
    let there : c.loop-node.node < length net = omega (arith, c.nodes-count.ensures, c.loop-node-test.true) in
    ap (map (map leg_view)) c.in_ok-push.ensures.items
    ∙ map-append (map leg_view) c.loop-node.nodes.items (c.in_ok-legs.legs ∷ [])
    ∙ ap (λ l. l ++ map leg_view c.in_ok-legs.legs ∷ []) c.loop-node.invariant
    ∙ sym (legs_at net c.loop-node.node (map leg_view c.in_ok-legs.legs) there c.in_ok-legs.ensures)
