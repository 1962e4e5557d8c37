use Rattle.std.proofs.Common.{rules, ◌≡◌}
use Rattle.dn_grant.specs.declared.refusal.GrantRefusal.TheVariants as why
use Rattle.dn_script.proofs.change.grant_refused.Goals as goal

pub returns-in-NoPlacement : goal.returns-in-NoPlacement
returns-in-NoPlacement c =
    let is : c.args.why ≡ why.NoPlacement = search rules in
    rw is c.refused_reply-in-NoPlacement.ensures
