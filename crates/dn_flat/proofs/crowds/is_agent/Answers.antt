-- The role of the node tells it.
use Rattle.std.proofs.Common.{◌∙◌, slice_get}
use Rattle.dn_flat.proofs.Crowded.{role_agent}
use Rattle.dn_flat.proofs.crowds.is_agent.Goals as goal

pub returns : goal.returns
returns c = c.is_agent_role.ensures ∙ role_agent (slice_get c.args.net.now c.args.node) c.role.result c.role.ensures
