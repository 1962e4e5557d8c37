use Rattle.dn_tool.proofs.Reread.{absorb_is_read_back}
use Rattle.dn_tool.proofs.laws.absorbed_net_is_read_back.Goals as goal

pub returns : goal.returns
returns c = absorb_is_read_back
