-- The stop is one of the names that are listed.
use Rattle.std.proofs.Common.{◌∙◌, Option, Some, sym, subst}
use Rattle.dn_interval.specs.declared.row.End.{End}
use Rattle.dn_net.proofs.Stops.{agent_there}
use Rattle.dn_flat.specs.Crowds.{IsCrowded}
use Rattle.dn_flat.proofs.Crowded.{found_along}
use Rattle.dn_place.specs.Marks.{IsEntry}
use Rattle.dn_place.proofs.Shut.{crowd_here, crowd_off}
use Rattle.dn_place.proofs.booked.is_crowded.Goals as goal

pub entry_of-requires-clause-there : goal.entry_of-requires-clause-there
entry_of-requires-clause-there g c = agent_there c.args.system.on.net.now c.args.agent c.requires.agent

pub returns-in-Some : goal.returns-in-Some
returns-in-Some g c = λ yes.
    let net = c.args.system.on.net.now in
    let entry = c.in-Some.entry in
    crowd_off net c.requires.system.kinded.legal.legal c.args.agent c.args.at entry c.requires.agent
    (subst (λ (o : Option End). IsEntry net c.args.agent (Some c.args.at) o) c.in-Some.is c.entry_of.ensures)
    (crowd_here net entry.node entry.base c.crowd_among.result (sym c.is_some.ensures ∙ yes)
    (found_along (IsCrowded net) c.args.system.flats.now.crowds entry.node c.crowd_among.result c.requires.system.flat.crowded c.crowd_among.ensures.listed)
    c.crowd_among.ensures.from c.crowd_among.ensures.to)
