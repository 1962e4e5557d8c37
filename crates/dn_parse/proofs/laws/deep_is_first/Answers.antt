use Rattle.dn_parse.proofs.Final.{deep_is_first}
use Rattle.dn_parse.proofs.laws.deep_is_first.Goals as goal

pub returns : goal.returns
returns c = deep_is_first
