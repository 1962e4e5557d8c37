use Rattle.dn_flat.proofs.Rows.{view_rows_are_normal}
use Rattle.dn_flat.proofs.laws.view_rows_are_normal.Goals as goal

pub returns : goal.returns
returns c = view_rows_are_normal
