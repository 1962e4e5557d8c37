use Rattle.std.proofs.Common.{sym}
use Rattle.dn_parse.specs.Script.{script_view}
use Rattle.dn_parse.proofs.script.Script.len.Goals as goal

pub returns : goal.returns
unfolding script_view
returns c = sym c.args.self.read
