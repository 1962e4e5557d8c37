use Rattle.dn_book.proofs.KeptEmpty.{kept_slots_are_the_books}
use Rattle.dn_book.proofs.kept.kept_slots_are_the_books.Goals as goal

pub returns : goal.returns
returns c = kept_slots_are_the_books
