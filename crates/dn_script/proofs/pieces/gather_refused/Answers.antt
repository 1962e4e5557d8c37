use Rattle.std.proofs.Common.{rules, ◌≡◌}
use Rattle.dn_gather.specs.declared.refusal.GatherRefusal.TheVariants as why
use Rattle.dn_script.proofs.pieces.gather_refused.Goals as goal

pub returns-in-NoPlacement : goal.returns-in-NoPlacement
returns-in-NoPlacement c =
    let is : c.args.why ≡ why.NoPlacement = search rules in
    rw is c.refused_reply-in-NoPlacement.ensures
