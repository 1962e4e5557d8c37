use Rattle.dn_net.proofs.Resolution.{end_names_are_ends}
use Rattle.dn_net.proofs.laws.end_names_are_ends.Goals as goal

pub returns : goal.returns
returns c = end_names_are_ends
