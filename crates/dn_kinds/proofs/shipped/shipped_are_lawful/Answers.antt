use Rattle.dn_kinds.proofs.Lawful.{shipped_are_lawful}
use Rattle.dn_kinds.proofs.shipped.shipped_are_lawful.Goals as goal

pub returns : goal.returns
returns c = shipped_are_lawful
