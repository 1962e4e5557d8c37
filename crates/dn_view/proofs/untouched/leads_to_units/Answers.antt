use Rattle.std.proofs.Common.{◌∙◌, ap, get_or, false}
use Rattle.dn_flat.specs.declared.seers.Seers.{Seers}
use Rattle.dn_view.proofs.untouched.leads_to_units.Goals as goal

pub returns : goal.returns
returns g c =
    c.leads_on.ensures ∙ ap (λ (s : Seers). get_or s.leads c.args.node false) c.seers.ensures ∙ c.requires.flat.seers.leads c.args.node
