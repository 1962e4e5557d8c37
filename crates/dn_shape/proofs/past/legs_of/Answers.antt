-- The legs of the node, of which neither the first nor the last addresses descend.
use Rattle.std.proofs.lemmas.Result.{IfOk-weaker}
use Rattle.dn_shape.proofs.Walked.{legs_lead}
use Rattle.dn_shape.proofs.past.legs_of.Goals as goal

pub returns-clause-lead : goal.returns-clause-lead
returns-clause-lead c = IfOk-weaker c.node_legs.result _ _ (λ ls h. legs_lead c.args.checked.net.now c.args.checked.rules c.args.checked.node ls c.args.checked.there h) c.node_legs.ensures
