use Rattle.dn_kind.proofs.Ways.{one_row_of_slots}
use Rattle.dn_kind.proofs.laws.one_row_of_slots.Goals as goal

pub returns : goal.returns
returns c = one_row_of_slots
