use Rattle.dn_book.proofs.Begun.{tables_hold_records}
use Rattle.dn_book.proofs.laws.tables_hold_records.Goals as goal

pub returns : goal.returns
returns c = tables_hold_records
