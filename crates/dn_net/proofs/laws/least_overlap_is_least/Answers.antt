use Rattle.dn_net.proofs.Least.{least_overlap_is_least}
use Rattle.dn_net.proofs.laws.least_overlap_is_least.Goals as goal

pub returns : goal.returns
returns c = least_overlap_is_least
