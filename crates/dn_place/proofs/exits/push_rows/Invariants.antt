use Rattle.std.proofs.Common.{drop}
use Rattle.dn_place.specs.Exits.{Passing}
use Rattle.dn_place.specs.Hops.{hops_view}
use Rattle.dn_place.proofs.exits.push_rows.Given as goal

abbrev pub invariant-loop-row : goal.invariant-loop-row
invariant-loop-row g l = Passing l.search.system.on.net.now l.search.translator.now l.search.request (hops_view l.search.nearer) l.port l.rows (drop l.row-index l.rows) l.exits.items
