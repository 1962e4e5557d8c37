use Rattle.dn_shape.proofs.Ruled.{split_keeps_rules}
use Rattle.dn_shape.proofs.laws.split_keeps_rules.Goals as goal

pub returns : goal.returns
returns c = split_keeps_rules
