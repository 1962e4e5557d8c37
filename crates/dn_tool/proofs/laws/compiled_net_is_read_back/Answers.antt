use Rattle.dn_tool.proofs.Reread.{compiled_is_read_back}
use Rattle.dn_tool.proofs.laws.compiled_net_is_read_back.Goals as goal

pub returns : goal.returns
returns c = compiled_is_read_back
