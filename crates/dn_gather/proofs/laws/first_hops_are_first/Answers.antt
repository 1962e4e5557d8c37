use Rattle.dn_gather.proofs.Chosen.{first_hops_are_first}
use Rattle.dn_gather.proofs.laws.first_hops_are_first.Goals as goal

pub returns : goal.returns
returns c = first_hops_are_first
