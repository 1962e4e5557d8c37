use Rattle.dn_place.proofs.Named.{itself}
use Rattle.dn_place.proofs.kept.at_itself.Goals as goal

pub returns : goal.returns
returns c = λ x z e. itself c.args.seg c.last_out.result x z c.last_out.ensures e
