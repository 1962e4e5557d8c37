use Rattle.dn_net.proofs.Ascending.{end_names_ascend}
use Rattle.dn_net.proofs.laws.end_names_ascend.Goals as goal

pub returns : goal.returns
returns c = end_names_ascend
