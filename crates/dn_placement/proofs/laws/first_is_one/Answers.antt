use Rattle.dn_placement.proofs.Order.{first_is_one}
use Rattle.dn_placement.proofs.laws.first_is_one.Goals as goal

pub returns : goal.returns
returns c = first_is_one
