use Rattle.dn_flight.proofs.Going.{going_is_fenced}
use Rattle.dn_flight.proofs.laws.going_is_fenced.Goals as goal

pub returns : goal.returns
returns c = going_is_fenced
