use Rattle.dn_script.proofs.SomeTurn.{script_has_turns}
use Rattle.dn_tool.proofs.laws.script_has_turns.Goals as goal

pub returns : goal.returns
returns c = script_has_turns
