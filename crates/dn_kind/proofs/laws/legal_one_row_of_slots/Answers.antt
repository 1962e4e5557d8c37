use Rattle.dn_kind.proofs.Ways.{legal_one_row_of_slots}
use Rattle.dn_kind.proofs.laws.legal_one_row_of_slots.Goals as goal

pub returns : goal.returns
returns c = legal_one_row_of_slots
