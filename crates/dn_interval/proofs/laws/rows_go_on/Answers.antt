use Rattle.dn_interval.proofs.Goes.{rows_go_on}
use Rattle.dn_interval.proofs.laws.rows_go_on.Goals as goal

pub returns : goal.returns
returns c = rows_go_on
