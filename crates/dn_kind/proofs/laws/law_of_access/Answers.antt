use Rattle.dn_kind.proofs.Allowed.{law_of_access}
use Rattle.dn_kind.proofs.laws.law_of_access.Goals as goal

pub returns : goal.returns
returns c = law_of_access
