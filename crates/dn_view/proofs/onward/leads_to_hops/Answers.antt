use Rattle.std.proofs.Common.{◌∙◌, ap, sym}
use Rattle.std.specs.List.{list_any}
use Rattle.dn_flat.specs.Levels.{units_in}
use Rattle.dn_view.specs.Untouched.{can_meet}
use Rattle.dn_view.proofs.onward.leads_to_hops.Goals as goal

pub returns : goal.returns
returns g c =
    let units = c.as_slice-units.ensures ∙ sym (ap units_in c.of.ensures) in
    c.some_meets.ensures ∙ ap (list_any (can_meet c.args.trial.system.on.net.now c.args.trial.system.flats.now c.args.trial.placement.now.hops)) units
