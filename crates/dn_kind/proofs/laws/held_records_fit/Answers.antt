use Rattle.dn_kind.proofs.Held.{held_records_fit}
use Rattle.dn_kind.proofs.laws.held_records_fit.Goals as goal

pub returns : goal.returns
returns c = held_records_fit
