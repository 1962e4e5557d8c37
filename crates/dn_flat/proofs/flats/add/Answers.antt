-- The node reaches what another before it reaches, or what its levels are.
use Rattle.std.proofs.Common.{◌≡◌, ◌+◌, ◌++◌, [], ◌∷◌, Some, sym, subst, slice_get}
use Rattle.dn_base.proofs.Told.{on_ok_then}
use Rattle.dn_flat.specs.declared.levels.Levels.{Levels}
use Rattle.dn_flat.specs.Levels.{AreLevelsBelow}
use Rattle.dn_flat.specs.Stages.{AreReaches}
use Rattle.dn_flat.proofs.Led.{one_below, shared_below}
use Rattle.dn_flat.proofs.flats.add.Goals as goal

pub returns-in-Some : goal.returns-in-Some
returns-in-Some c =
    let net = c.args.net.now in
    let nodes = c.args.stage.now.nodes in
    let all = c.args.shared.now in
    let node = c.args.node in
    let other = c.in-Some.other in
    let are : AreReaches net 1 nodes = subst (λ k. AreReaches net k nodes) c.requires.first c.requires.stage in
    on_ok_then c.share.result ((levels : Levels) → slice_get all other ≡ Some levels → c.share.new.self ≡ all ++ levels ∷ []) (AreLevelsBelow net (node + 1) c.share.new.self)
    (shared_below net c.requires.legal nodes are node other c.requires.there c.if-other-node.true c.in-Some.ensures all c.share.new.self c.requires.below)
    c.share.ensures

pub returns-in_ok-levels-in_default : goal.returns-in_ok-levels-in_default
returns-in_ok-levels-in_default c =
    let net = c.args.net.now in
    let all = c.args.shared.now in
    let node = c.args.node in
    let levels = c.in_ok-levels-in_default.levels in
    on_ok_then c.push.result (c.push.new.self ≡ all ++ levels ∷ []) (AreLevelsBelow net (node + 1) c.push.new.self)
    (λ e. subst (AreLevelsBelow net (node + 1)) (sym e) (one_below net node all levels c.requires.below c.in_ok-levels-in_default.ensures))
    c.push.ensures
