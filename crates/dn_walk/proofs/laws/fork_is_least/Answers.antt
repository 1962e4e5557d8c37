use Rattle.dn_walk.proofs.Forks.{fork_is_least}
use Rattle.dn_walk.proofs.laws.fork_is_least.Goals as goal

pub returns : goal.returns
returns c = fork_is_least
