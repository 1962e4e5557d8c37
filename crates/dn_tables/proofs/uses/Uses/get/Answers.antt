use Rattle.std.proofs.Common.{◌∙◌, ap}
use Rattle.dn_tables.specs.Uses.{use_by}
use Rattle.dn_tables.proofs.Users.{use_there, users_there}
use Rattle.dn_tables.proofs.uses.Uses.get.Goals as goal

pub get-requires : goal.get-requires
get-requires c = users_there c.self.inside.users c.args.self.now c.args.slot c.self.view_is c.requires

pub returns-clause-value : goal.returns-clause-value
returns-clause-value c =
    c.use_by.ensures.value
    ∙ ap use_by c.get.ensures
    ∙ use_there c.self.inside.users c.args.self.now c.args.slot c.get.result c.use_by.result c.self.view_is c.requires
