use Rattle.dn_shape.proofs.Led.{absorb_keeps_rules}
use Rattle.dn_shape.proofs.laws.absorb_keeps_rules.Goals as goal

pub returns : goal.returns
returns c = absorb_keeps_rules
