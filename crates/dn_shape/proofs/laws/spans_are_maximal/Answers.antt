use Rattle.dn_shape.proofs.Maximal.{spans_are_maximal}
use Rattle.dn_shape.proofs.laws.spans_are_maximal.Goals as goal

pub returns : goal.returns
returns c = spans_are_maximal
