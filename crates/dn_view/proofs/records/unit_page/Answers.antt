use Rattle.std.proofs.Common.{ap, ◌∙◌, Some}
use Rattle.std.specs.Option.{option_copied}
use Rattle.dn_net.proofs.Steps.{unit_is}
use Rattle.dn_view.proofs.Fitted.{small_unit}
use Rattle.dn_view.proofs.records.unit_page.Goals as goal

pub returns-in-Some-clause-small : goal.returns-in-Some-clause-small
returns-in-Some-clause-small c =
    (small_unit c.args.checked.net.now c.args.node c.in-Some.unit.now c.args.checked.plain (unit_is c.args.checked.net.now c.args.node (Some c.in-Some.unit.now) (c.unit.ensures ∙ ap (λ o. Some (option_copied o)) c.in-Some.is))).page
