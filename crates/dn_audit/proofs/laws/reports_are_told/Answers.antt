use Rattle.dn_audit.proofs.Told.{reports_are_told}
use Rattle.dn_audit.proofs.laws.reports_are_told.Goals as goal

pub returns : goal.returns
returns c = reports_are_told
