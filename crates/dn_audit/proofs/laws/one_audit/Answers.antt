use Rattle.dn_audit.proofs.One.{one_audit}
use Rattle.dn_audit.proofs.laws.one_audit.Goals as goal

pub returns : goal.returns
returns c = one_audit
