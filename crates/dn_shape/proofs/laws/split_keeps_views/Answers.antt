use Rattle.dn_shape.proofs.Renamed.{split_keeps_views}
use Rattle.dn_shape.proofs.laws.split_keeps_views.Goals as goal

pub returns : goal.returns
returns c = split_keeps_views
