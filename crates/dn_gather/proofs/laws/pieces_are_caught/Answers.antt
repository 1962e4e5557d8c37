use Rattle.dn_gather.proofs.Coming.{pieces_are_caught}
use Rattle.dn_gather.proofs.laws.pieces_are_caught.Goals as goal

pub returns : goal.returns
returns c = pieces_are_caught
