use Rattle.dn_gather.proofs.Coming.{pieces_keep_book}
use Rattle.dn_gather.proofs.laws.pieces_keep_book.Goals as goal

pub returns : goal.returns
returns c = pieces_keep_book
