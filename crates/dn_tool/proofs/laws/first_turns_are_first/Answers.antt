use Rattle.dn_script.proofs.OneTurn.{first_turns_are_first}
use Rattle.dn_tool.proofs.laws.first_turns_are_first.Goals as goal

pub returns : goal.returns
returns c = first_turns_are_first
