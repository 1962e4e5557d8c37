use Rattle.std.proofs.Common.{refl}
use Rattle.dn_net.specs.Decode.{step_limit}
use Rattle.dn_net.specs.UnitRules.{slots_limit}
use Rattle.dn_net.specs.WalkRules.{walk_limit}
use Rattle.dn_net.proofs.laws.limits.Goals as goal

pub returns : goal.returns
unfolding step_limit walk_limit slots_limit
returns c = record { last_address = refl; nodes = refl; chain_steps = refl; live_walks = refl; row_slots = refl }
