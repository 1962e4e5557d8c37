use Rattle.dn_gather.proofs.Coming.{pieces_come_in_turn}
use Rattle.dn_gather.proofs.laws.pieces_come_in_turn.Goals as goal

pub returns : goal.returns
returns c = pieces_come_in_turn
