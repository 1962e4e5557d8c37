use Rattle.dn_radix.proofs.Reached.{level_is_least}
use Rattle.dn_radix.proofs.laws.level_is_least.Goals as goal

pub returns : goal.returns
returns c = level_is_least
