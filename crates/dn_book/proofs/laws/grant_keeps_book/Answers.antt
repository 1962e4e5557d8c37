use Rattle.dn_book.proofs.Faithful.{grant_keeps_book}
use Rattle.dn_book.proofs.laws.grant_keeps_book.Goals as goal

pub returns : goal.returns
returns c = grant_keeps_book
