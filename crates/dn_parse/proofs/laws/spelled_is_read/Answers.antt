use Rattle.dn_parse.proofs.Whole.{spelled_is_read}
use Rattle.dn_parse.proofs.laws.spelled_is_read.Goals as goal

pub returns : goal.returns
returns c = spelled_is_read
