use Rattle.dn_token.proofs.Going.{tokens_go_on}
use Rattle.dn_token.proofs.laws.tokens_go_on.Goals as goal

pub returns : goal.returns
returns c = tokens_go_on
