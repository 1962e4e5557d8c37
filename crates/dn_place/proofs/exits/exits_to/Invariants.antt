use Rattle.dn_place.specs.Exits.{AreExitsTo}
use Rattle.dn_place.specs.Hops.{hops_view}
use Rattle.dn_place.proofs.exits.exits_to.Given as goal

abbrev pub invariant-loop-port : goal.invariant-loop-port
invariant-loop-port g l = AreExitsTo l.search.system.on.net.now l.search.translator.now l.search.request (hops_view l.search.nearer) l.port l.exits.items
