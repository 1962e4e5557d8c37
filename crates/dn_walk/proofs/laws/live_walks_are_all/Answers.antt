use Rattle.dn_walk.proofs.Listed.{live_walks_are_all}
use Rattle.dn_walk.proofs.laws.live_walks_are_all.Goals as goal

pub returns : goal.returns
returns c = live_walks_are_all
