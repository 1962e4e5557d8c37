use Rattle.dn_kind.proofs.Ways.{legal_one_way_to_unit}
use Rattle.dn_kind.proofs.laws.legal_one_way_to_unit.Goals as goal

pub returns : goal.returns
returns c = legal_one_way_to_unit
