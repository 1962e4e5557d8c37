use Rattle.std.proofs.Common.{refl}
use Rattle.dn_parse.specs.Commands.{commands_from}
use Rattle.dn_parse.specs.Script.{script_view}
use Rattle.dn_parse.proofs.script.Script.none.Goals as goal

pub invariant_of-result : goal.invariant_of-result
unfolding commands_from
invariant_of-result c = record { read = refl; known = λ h. refl }

pub returns : goal.returns
unfolding script_view commands_from
returns c = refl
