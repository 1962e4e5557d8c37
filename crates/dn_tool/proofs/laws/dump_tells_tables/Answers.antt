use Rattle.dn_script.proofs.Dumped.{dump_tells_tables}
use Rattle.dn_tool.proofs.laws.dump_tells_tables.Goals as goal

pub returns : goal.returns
returns c = dump_tells_tables
