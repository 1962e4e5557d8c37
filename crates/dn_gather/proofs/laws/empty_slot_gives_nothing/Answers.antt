use Rattle.dn_gather.proofs.Apart.{empty_slot_gives_nothing}
use Rattle.dn_gather.proofs.laws.empty_slot_gives_nothing.Goals as goal

pub returns : goal.returns
returns c = empty_slot_gives_nothing
