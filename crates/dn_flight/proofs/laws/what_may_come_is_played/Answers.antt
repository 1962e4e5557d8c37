use Rattle.dn_flight.proofs.Faults.{what_may_come_is_played}
use Rattle.dn_flight.proofs.laws.what_may_come_is_played.Goals as goal

pub returns : goal.returns
returns c = what_may_come_is_played
