use Rattle.dn_kind.proofs.Shapes.{shape_fault_is_first}
use Rattle.dn_kind.proofs.laws.shape_fault_is_first.Goals as goal

pub returns : goal.returns
returns c = shape_fault_is_first
