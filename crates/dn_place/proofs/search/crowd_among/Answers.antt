use Rattle.dn_flat.specs.Crowds.{IsCrowded}
use Rattle.dn_flat.proofs.Crowded.{found_along}
use Rattle.dn_place.proofs.search.crowd_among.Goals as goal

pub returns-clause-crowded : goal.returns-clause-crowded
returns-clause-crowded g c = found_along (IsCrowded c.args.search.system.on.net.now) c.args.search.system.flats.now.crowds c.args.unit c.crowd_among.result c.requires.search.system.flat.crowded c.crowd_among.ensures.listed
