use Rattle.dn_parse.proofs.Shallow.{shallow_is_read}
use Rattle.dn_parse.proofs.laws.shallow_is_read.Goals as goal

pub returns : goal.returns
returns c = shallow_is_read
