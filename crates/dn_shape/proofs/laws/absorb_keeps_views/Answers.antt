use Rattle.dn_shape.proofs.Absorbed.{absorb_keeps_views}
use Rattle.dn_shape.proofs.laws.absorb_keeps_views.Goals as goal

pub returns : goal.returns
returns c = absorb_keeps_views
