use Rattle.dn_placement.proofs.Order.{placements_are_ordered}
use Rattle.dn_placement.proofs.laws.placements_are_ordered.Goals as goal

pub returns : goal.returns
returns c = placements_are_ordered
