use Rattle.dn_kind.proofs.Ways.{one_way_to_unit}
use Rattle.dn_kind.proofs.laws.one_way_to_unit.Goals as goal

pub returns : goal.returns
returns c = one_way_to_unit
