use Rattle.dn_script.proofs.SomeTurn.{command_has_turn}
use Rattle.dn_tool.proofs.laws.command_has_turn.Goals as goal

pub returns : goal.returns
returns c = command_has_turn
