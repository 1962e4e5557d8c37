use Rattle.dn_walk.proofs.Legal.{legal_breaks_no_rule}
use Rattle.dn_walk.proofs.laws.legal_breaks_no_rule.Goals as goal

pub returns : goal.returns
returns c = legal_breaks_no_rule
