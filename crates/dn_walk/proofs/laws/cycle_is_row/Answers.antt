use Rattle.dn_net.proofs.Cycles.{cycle_is_row}
use Rattle.dn_walk.proofs.laws.cycle_is_row.Goals as goal

pub returns : goal.returns
returns c = cycle_is_row
