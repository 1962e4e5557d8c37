use Rattle.std.proofs.Common.{◌≡◌, ◌∙◌, ap, map, replicate, rules}
use Rattle.dn_tables.specs.declared.uses.Users.TheVariants.{Sharing}
use Rattle.dn_tables.specs.Uses.{use_by}
use Rattle.dn_tables.proofs.Users.{unused_is}
use Rattle.dn_tables.proofs.uses.Uses.unused.Goals as goal

pub returns : goal.returns
returns c =
    let made : c.in_ok-users.users ≡ replicate c.args.slots (Sharing 0) = search rules in
    ap (map use_by) made ∙ unused_is c.args.slots
