use Rattle.dn_audit.proofs.ShutOut.{shut_are_shut_out}
use Rattle.dn_audit.proofs.laws.shut_are_shut_out.Goals as goal

pub returns : goal.returns
returns c = shut_are_shut_out
