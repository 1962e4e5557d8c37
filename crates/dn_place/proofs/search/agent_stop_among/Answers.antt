use Rattle.dn_flat.specs.Crowds.{IsAgentStop}
use Rattle.dn_flat.proofs.Crowded.{found_along}
use Rattle.dn_place.proofs.search.agent_stop_among.Goals as goal

pub returns-clause-stopped : goal.returns-clause-stopped
returns-clause-stopped g c = found_along (IsAgentStop c.args.search.system.on.net.now) c.args.search.system.flats.now.agent_stops c.args.unit c.agent_stop_among.result c.requires.search.system.flat.stopped c.agent_stop_among.ensures.listed
