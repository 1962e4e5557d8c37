use Rattle.dn_book.proofs.Live.{revoke_clears_some}
use Rattle.dn_book.proofs.laws.revoke_clears_some.Goals as goal

pub returns : goal.returns
returns c = revoke_clears_some
