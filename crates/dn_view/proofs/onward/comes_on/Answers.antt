use Rattle.std.proofs.Common.{◌∙◌, ap, sym, ℕ, Bool}
use Rattle.std.specs.List.{list_any}
use Rattle.std.proofs.Math.ListN.{drop_of_length-le}
use Rattle.dn_view.specs.Untouched.{leads_to_hops}
use Rattle.dn_view.proofs.onward.comes_on.Goals as goal

pub returns : goal.returns
returns g c =
    let p : ℕ → Bool = leads_to_hops c.args.trial.system.on.net.now c.args.trial.system.flats.now c.args.trial.placement.now.hops in
    sym (ap (list_any p) (sym c.as_slice-ports.ensures) ∙ c.loop-port.invariant ∙ ap (list_any p) (drop_of_length-le c.as_slice-ports.result.now c.loop-port-test.false))
