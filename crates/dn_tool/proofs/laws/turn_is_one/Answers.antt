use Rattle.dn_script.proofs.OneTurn.{turn_is_one}
use Rattle.dn_tool.proofs.laws.turn_is_one.Goals as goal

pub returns : goal.returns
returns c = turn_is_one
