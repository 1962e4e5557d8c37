use Rattle.dn_net.proofs.Firsts.{shortest_cycle_is_shortest}
use Rattle.dn_net.proofs.laws.shortest_cycle_is_shortest.Goals as goal

pub returns : goal.returns
returns c = shortest_cycle_is_shortest
