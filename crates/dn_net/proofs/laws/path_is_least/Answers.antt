use Rattle.dn_net.proofs.Ways.{path_is_least}
use Rattle.dn_net.proofs.laws.path_is_least.Goals as goal

pub returns : goal.returns
returns c = path_is_least
