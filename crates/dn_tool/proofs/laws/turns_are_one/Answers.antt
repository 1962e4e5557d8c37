use Rattle.dn_script.proofs.OneTurn.{turns_are_one}
use Rattle.dn_tool.proofs.laws.turns_are_one.Goals as goal

pub returns : goal.returns
returns c = turns_are_one
