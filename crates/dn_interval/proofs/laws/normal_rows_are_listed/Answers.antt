-- Normal rows are the list that is made address by address.
use Rattle.dn_interval.proofs.Listing.{normal_are_listed}
use Rattle.dn_interval.proofs.laws.normal_rows_are_listed.Goals as goal

pub returns : goal.returns
returns c = normal_are_listed
