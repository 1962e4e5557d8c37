use Rattle.dn_parse.proofs.Final.{refused_is_first}
use Rattle.dn_parse.proofs.laws.refused_is_first.Goals as goal

pub returns : goal.returns
returns c = refused_is_first
