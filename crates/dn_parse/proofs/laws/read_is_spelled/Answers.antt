use Rattle.dn_parse.specs.Machine.{run, between}
use Rattle.dn_parse.proofs.Reach.{reached, read_is_spelled}
use Rattle.dn_parse.proofs.laws.read_is_spelled.Goals as goal

pub returns : goal.returns
returns c = λ ts e. read_is_spelled ts (run between ts).statements (run between ts).stop (reached ts between) e
