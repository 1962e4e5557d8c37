use Rattle.dn_net.proofs.Resolution.{after_steps_is_chain}
use Rattle.dn_net.proofs.laws.after_steps_is_chain.Goals as goal

pub returns : goal.returns
returns c = after_steps_is_chain
