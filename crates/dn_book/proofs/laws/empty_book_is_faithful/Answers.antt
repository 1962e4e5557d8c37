use Rattle.dn_book.proofs.Faithful.{empty_book_is_faithful}
use Rattle.dn_book.proofs.laws.empty_book_is_faithful.Goals as goal

pub returns : goal.returns
returns c = empty_book_is_faithful
