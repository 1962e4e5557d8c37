use Rattle.std.proofs.Common.{◌∙◌, ap, sym}
use Rattle.std.specs.List.{list_any}
use Rattle.std.proofs.Math.ListN.{drop_of_length-le}
use Rattle.dn_view.specs.Untouched.{leads_on}
use Rattle.dn_view.proofs.met.some_lead_on.Goals as goal

pub returns : goal.returns
returns g c =
    let p = leads_on c.args.system.on.net.now c.args.system.flats.now in
    sym (c.loop-node.invariant ∙ ap (list_any p) (drop_of_length-le c.args.nodes.now c.loop-node-test.false))
