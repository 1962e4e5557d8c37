use Rattle.dn_walk.proofs.Order.{live_walks_are_in_order}
use Rattle.dn_walk.proofs.laws.live_walks_are_in_order.Goals as goal

pub returns : goal.returns
returns c = live_walks_are_in_order
