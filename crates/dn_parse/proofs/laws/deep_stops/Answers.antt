use Rattle.dn_parse.proofs.Shallow.{deep_stops}
use Rattle.dn_parse.proofs.laws.deep_stops.Goals as goal

pub returns : goal.returns
returns c = deep_stops
