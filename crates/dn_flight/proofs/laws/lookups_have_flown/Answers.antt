use Rattle.dn_flight.proofs.Flown.{lookups_have_flown}
use Rattle.dn_flight.proofs.laws.lookups_have_flown.Goals as goal

pub returns : goal.returns
returns c = lookups_have_flown
