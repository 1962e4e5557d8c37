use Rattle.dn_net.specs.Decode.{is_accepted}
use Rattle.dn_net.proofs.Resolution.{end_names_are_ends}
use Rattle.dn_kind.specs.Tables.{steps_under, step_limit_under}
use Rattle.dn_kind.proofs.laws.names_under_are_resolved.Goals as goal

pub returns : goal.returns
returns c net h x y = end_names_are_ends (steps_under net h) (is_accepted net) step_limit_under x y
