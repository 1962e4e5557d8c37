use Rattle.dn_book.proofs.Owed.{owed_names_are_resolved}
use Rattle.dn_book.proofs.laws.owed_names_are_resolved.Goals as goal

pub returns : goal.returns
returns c = owed_names_are_resolved
