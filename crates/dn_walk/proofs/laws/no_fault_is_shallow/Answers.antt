use Rattle.dn_walk.proofs.Endless.{no_fault_is_shallow}
use Rattle.dn_walk.proofs.laws.no_fault_is_shallow.Goals as goal

pub returns : goal.returns
returns c = no_fault_is_shallow
