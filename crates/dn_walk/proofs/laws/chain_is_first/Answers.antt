use Rattle.dn_walk.proofs.UnitRows.{chain_is_first}
use Rattle.dn_walk.proofs.laws.chain_is_first.Goals as goal

pub returns : goal.returns
returns c = chain_is_first
