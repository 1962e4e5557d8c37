use Rattle.dn_shape.proofs.Free.{free_number_is_first}
use Rattle.dn_shape.proofs.laws.free_number_is_first.Goals as goal

pub returns : goal.returns
returns c = free_number_is_first
