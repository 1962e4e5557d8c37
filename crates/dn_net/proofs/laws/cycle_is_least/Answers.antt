use Rattle.dn_net.proofs.Ways.{cycle_is_least}
use Rattle.dn_net.proofs.laws.cycle_is_least.Goals as goal

pub returns : goal.returns
returns c = cycle_is_least
