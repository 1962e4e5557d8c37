use Rattle.dn_book.proofs.Faithful.{revoke_keeps_book}
use Rattle.dn_book.proofs.laws.revoke_keeps_book.Goals as goal

pub returns : goal.returns
returns c = revoke_keeps_book
