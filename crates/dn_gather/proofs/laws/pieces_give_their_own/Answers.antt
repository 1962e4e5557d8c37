use Rattle.dn_gather.proofs.Apart.{pieces_give_their_own}
use Rattle.dn_gather.proofs.laws.pieces_give_their_own.Goals as goal

pub returns : goal.returns
returns c = pieces_give_their_own
