use Rattle.std.proofs.Common.{◌∙◌, ap, sym}
use Rattle.std.specs.List.{list_any}
use Rattle.std.proofs.Math.ListN.{drop_of_length-le}
use Rattle.dn_view.specs.Untouched.{can_meet}
use Rattle.dn_view.proofs.untouched.some_meets.Goals as goal

pub returns : goal.returns
returns g c =
    let p = can_meet c.args.trial.system.on.net.now c.args.trial.system.flats.now c.args.trial.placement.now.hops in
    sym (c.loop-node.invariant ∙ ap (list_any p) (drop_of_length-le c.args.nodes.now c.loop-node-test.false))
