use Rattle.dn_tool.proofs.Reread.{split_is_read_back}
use Rattle.dn_tool.proofs.laws.split_net_is_read_back.Goals as goal

pub returns : goal.returns
returns c = split_is_read_back
