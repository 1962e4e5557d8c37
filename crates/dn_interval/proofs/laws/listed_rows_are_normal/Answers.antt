-- The list that is made address by address is normal.
use Rattle.dn_interval.proofs.Fronts.{listed_are_normal}
use Rattle.dn_interval.proofs.laws.listed_rows_are_normal.Goals as goal

pub returns : goal.returns
returns c = listed_are_normal
