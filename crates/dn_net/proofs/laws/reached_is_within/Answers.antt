use Rattle.dn_net.proofs.Resolution.{reached_is_within}
use Rattle.dn_net.proofs.laws.reached_is_within.Goals as goal

pub returns : goal.returns
returns c = reached_is_within
