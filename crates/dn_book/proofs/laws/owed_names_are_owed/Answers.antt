use Rattle.dn_book.proofs.Owed.{owed_names_are_owed}
use Rattle.dn_book.proofs.laws.owed_names_are_owed.Goals as goal

pub returns : goal.returns
returns c = owed_names_are_owed
