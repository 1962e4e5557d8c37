-- A function has one list of normal rows.
use Rattle.dn_interval.proofs.Normal.{one_list}
use Rattle.dn_interval.proofs.laws.one_list_of_rows.Goals as goal

pub returns : goal.returns
returns c = one_list
