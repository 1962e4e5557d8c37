use Rattle.dn_book.proofs.Begun.{book_is_proper}
use Rattle.dn_book.proofs.laws.book_is_proper.Goals as goal

pub returns : goal.returns
returns c = book_is_proper
