use Rattle.std.proofs.Common.{◌∙◌, ap, List, map, slice_set}
use Rattle.std.proofs.lemmas.List.{map-set}
use Rattle.dn_tables.specs.declared.table.SlotUse.{SlotUse}
use Rattle.dn_tables.specs.Uses.{use_by}
use Rattle.dn_tables.proofs.Users.{users_there}
use Rattle.dn_tables.proofs.uses.Uses.set.Goals as goal

pub set-requires : goal.set-requires
set-requires c = users_there c.self.inside.users c.args.self.now c.args.slot c.self.view_is c.requires.there

pub returns : goal.returns
returns c =
    ap (map use_by) c.set.ensures
    ∙ map-set use_by c.self.inside.users c.args.slot c.users_of.result
    ∙ ap (λ (l : List SlotUse). slice_set l c.args.slot (use_by c.users_of.result)) c.self.view_is
    ∙ ap (slice_set c.args.self.now c.args.slot) c.users_of.ensures
