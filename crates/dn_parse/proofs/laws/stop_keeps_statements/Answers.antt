use Rattle.dn_parse.specs.Machine.{between}
use Rattle.dn_parse.proofs.Stopped.{stopped_at}
use Rattle.dn_parse.proofs.laws.stop_keeps_statements.Goals as goal

pub returns : goal.returns
returns c = λ ts. stopped_at ts between tt
