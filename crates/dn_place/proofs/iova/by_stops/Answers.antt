use Rattle.std.proofs.Common.{◌<◌, ℕ, subst, sym}
use Rattle.dn_place.proofs.iova.by_stops.Goals as goal

pub of-requires : goal.of-requires
of-requires g c = subst (λ (n : ℕ). c.args.search.request.agent < n) (sym c.requires.search.system.flat.every) c.requires.search.ready.agent

pub by_rows-requires-clause-toward : goal.by_rows-requires-clause-toward
by_rows-requires-clause-toward g c =
    let search = c.args.search in
    let agent = search.request.agent in
    c.in-Some.ensures search.system.on.net.now search.request agent (c.requires.search.system.flat.each agent c.of.result.now c.of.ensures)
