use Rattle.dn_net.proofs.Choices.{chain_is_walk}
use Rattle.dn_walk.proofs.laws.chain_is_walk.Goals as goal

pub returns : goal.returns
returns c = chain_is_walk
