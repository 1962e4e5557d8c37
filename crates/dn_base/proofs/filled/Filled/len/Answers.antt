use Rattle.std.proofs.Common.{◌∙◌, ap, sym, length}
use Rattle.dn_base.proofs.Paging.{count_shown}
use Rattle.dn_base.proofs.filled.Filled.len.Goals as goal

pub returns : goal.returns
returns g c = sym (count_shown c.self.inside.rest c.self.inside.items.items c.self.inside.ends.items c.self.inside.count) ∙ ap length c.self.view_is
