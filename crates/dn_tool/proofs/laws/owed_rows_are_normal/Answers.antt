use Rattle.dn_script.proofs.Seen.{owed_rows_are_normal}
use Rattle.dn_tool.proofs.laws.owed_rows_are_normal.Goals as goal

pub returns : goal.returns
returns c = owed_rows_are_normal
