use Rattle.dn_net.proofs.Steps.{over_reaches}
use Rattle.dn_net.proofs.step.over_step.Goals as goal

pub returns-in_default-clause-reach : goal.returns-in_default-clause-reach
returns-in_default-clause-reach c = over_reaches c.args.addr c.args.over.now c.requires.addr c.requires.based
