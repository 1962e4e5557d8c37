use Rattle.std.proofs.Common.{◌≡◌, subst, rules, None, Option}
use Rattle.dn_session.specs.Open.{SessionState}
use Rattle.netconf_c.specs.Calls.{HasNoNode, node_named}
use Rattle.netconf_c.proofs.netconf_node.Goals as goal

pub returns-in-None-clause-none : goal.returns-in-None-clause-none
returns-in-None-clause-none c e =
    let none : node_named c.args.name.now c.in-Some.opened.value ≡ None = search rules in
    subst (λ (held : Option SessionState). HasNoNode held c.args.name.now) c.in-Some.ensures.taken none
