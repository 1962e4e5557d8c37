use Rattle.dn_print.proofs.Drafted.{printable_back}
use Rattle.dn_print.proofs.laws.printable_net_is_read_back.Goals as goal

pub returns : goal.returns
returns c = printable_back
