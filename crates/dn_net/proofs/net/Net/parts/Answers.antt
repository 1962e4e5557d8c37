use Rattle.std.proofs.Common.{sym}
use Rattle.dn_base.proofs.Lists.{list_all-at}
use Rattle.dn_net.specs.Parts.{over_is_based}
use Rattle.dn_net.proofs.net.Net.parts.Goals as goal

pub returns-clause-based : goal.returns-clause-based
returns-clause-based c = list_all-at (λ e. over_is_based e.1.over) c.self.inside.nodes.entries _ _ c.self.invariant.based (sym c.in-Some.ensures.entry)
