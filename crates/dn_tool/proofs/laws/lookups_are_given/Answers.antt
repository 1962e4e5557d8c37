use Rattle.dn_script.proofs.Scripts.{lookups_are_given}
use Rattle.dn_tool.proofs.laws.lookups_are_given.Goals as goal

pub returns : goal.returns
returns c = lookups_are_given
