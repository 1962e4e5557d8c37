use Rattle.dn_script.proofs.Books.{books_stay_faithful}
use Rattle.dn_tool.proofs.laws.books_stay_faithful.Goals as goal

pub returns : goal.returns
returns c = books_stay_faithful
