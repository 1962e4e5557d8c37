use Rattle.std.proofs.Common.{subst}
use Rattle.dn_interval.specs.declared.row.End.{End}
use Rattle.dn_interval.specs.Rows.{AreNormal}
use Rattle.dn_place.specs.Preimages.{IsPreimage}
use Rattle.dn_place.specs.Rows.{wanted_name}
use Rattle.dn_place.specs.Searches.{sought}
use Rattle.dn_place.proofs.iova.by_agent.Goals as goal

pub by_preimages-requires-clause-rows : goal.by_preimages-requires-clause-rows
by_preimages-requires-clause-rows g c =
    let s = sought (λ k. (goal.UnitKind-dyn g k).meaning k.1) c.args.search in
    (subst (λ (z : End). AreNormal (IsPreimage s.net s.request.agent z.node) c.in-Some.rows.now) c.wanted_name.ensures (c.in-Some.ensures s.net s.request.agent c.requires.preimages))
