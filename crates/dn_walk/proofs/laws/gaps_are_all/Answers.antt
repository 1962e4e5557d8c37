use Rattle.dn_net.proofs.Gaps.{gaps_are_all}
use Rattle.dn_walk.proofs.laws.gaps_are_all.Goals as goal

pub returns : goal.returns
returns c = gaps_are_all
