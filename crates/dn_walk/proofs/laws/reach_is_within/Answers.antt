use Rattle.dn_walk.proofs.Endless.{reach_is_within}
use Rattle.dn_walk.proofs.laws.reach_is_within.Goals as goal

pub returns : goal.returns
returns c = reach_is_within
