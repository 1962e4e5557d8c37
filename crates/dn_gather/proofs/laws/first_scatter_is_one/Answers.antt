use Rattle.dn_gather.proofs.Chosen.{first_scatter_is_one}
use Rattle.dn_gather.proofs.laws.first_scatter_is_one.Goals as goal

pub returns : goal.returns
returns c = first_scatter_is_one
