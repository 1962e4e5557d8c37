use Rattle.dn_kind.proofs.Ways.{chain_passes_slots}
use Rattle.dn_kind.proofs.laws.chain_passes_slots.Goals as goal

pub returns : goal.returns
returns c = chain_passes_slots
