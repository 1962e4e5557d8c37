use Rattle.dn_walk.proofs.Endless.{endless_is_refused}
use Rattle.dn_walk.proofs.laws.endless_is_refused.Goals as goal

pub returns : goal.returns
returns c = endless_is_refused
