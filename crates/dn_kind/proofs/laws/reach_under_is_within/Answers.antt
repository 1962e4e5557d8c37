use Rattle.dn_kind.proofs.Bounds.{reach_under_is_within}
use Rattle.dn_kind.proofs.laws.reach_under_is_within.Goals as goal

pub returns : goal.returns
returns c = reach_under_is_within
