use Rattle.std.proofs.Common.{List, arith, subst, sym}
use Rattle.dn_view.proofs.Pages.{power_below}
use Rattle.dn_place.specs.declared.exits.Exit.{Exit}
use Rattle.dn_place.specs.Exits.{Passing}
use Rattle.dn_place.specs.Hops.{hops_view}
use Rattle.dn_place.proofs.Outputs.{none_alone, none_led, pass_none, pass_one}
use Rattle.dn_place.proofs.exits.push_output.Goals as goal

pub leads_on-requires-clause-there : goal.leads_on-requires-clause-there
leads_on-requires-clause-there g c = c.requires.search.bounds.there c.args.port c.args.node c.requires.node

pub shows_more-requires-clause-there : goal.shows_more-requires-clause-there
shows_more-requires-clause-there g c = c.requires.search.bounds.there c.args.port c.args.node c.requires.node

pub shows_more-requires-clause-reached : goal.shows_more-requires-clause-reached
shows_more-requires-clause-reached g c = c.leads_on.ensures.reached c.if-not-leads_on.false

pub exit_at-requires-clause-port : goal.exit_at-requires-clause-port
exit_at-requires-clause-port g c = omega (arith, c.requires.port, c.requires.search.bounds.ports)

pub exit_at-requires-clause-reached : goal.exit_at-requires-clause-reached
exit_at-requires-clause-reached g c = (let r = c.leads_on.ensures.reached c.if-not-leads_on.false in omega (arith, r, power_below c.args.search.translator.now.reach c.requires.search.bounds.reach))

pub returns-then-not-leads_on : goal.returns-then-not-leads_on
returns-then-not-leads_on g c = λ rows row rest toward here p.
    let search = c.args.search in
    let hops = hops_view search.nearer in
    pass_none search.system.on.net.now search.translator.now search.request hops c.args.port rows row rest c.args.exits.now.items c.requires.search.some
    (none_led search.system.on.net.now search.translator.now search.request hops c.args.port c.args.node c.args.y row c.requires.node here (c.leads_on.ensures.no c.if-not-leads_on.true)) p

pub returns-then-branch : goal.returns-then-branch
returns-then-branch g c = λ rows row rest toward here p.
    let search = c.args.search in
    let hops = hops_view search.nearer in
    pass_none search.system.on.net.now search.translator.now search.request hops c.args.port rows row rest c.args.exits.now.items c.requires.search.some
    (none_alone search.system.on.net.now search.translator.now search.request hops c.args.port c.args.y row here (c.in_ok-shows_more.ensures c.if-branch.true c.args.port c.requires.node)) p

pub returns : goal.returns
returns g c = λ rows row rest toward here p.
    let search = c.args.search in
    let hops = hops_view search.nearer in
    subst (λ (es : List Exit). Passing search.system.on.net.now search.translator.now search.request hops c.args.port rows rest es) (sym c.in_ok-push.ensures.items)
    (pass_one search.system.on.net.now search.translator.now search.request hops c.args.port c.args.node c.args.y rows row rest c.args.exits.now.items c.exit_at.result c.requires.search.some c.requires.search.bounds c.requires.node toward here (c.leads_on.ensures.reached c.if-not-leads_on.false) (c.leads_on.ensures.clear c.if-not-leads_on.false) c.exit_at.ensures p)
