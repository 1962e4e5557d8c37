use Rattle.dn_parse.specs.Script.{script_view}
use Rattle.dn_parse.proofs.script.Script.is_plain.Goals as goal

pub returns : goal.returns
unfolding script_view
returns c = c.args.self.known
