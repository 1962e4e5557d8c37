use Rattle.std.proofs.Common.{length, sym, subst}
use Rattle.dn_place.specs.declared.hops.Hops.{Hops}
use Rattle.dn_place.specs.Candidates.{IsAddressed, NoneUnder, to_address}
use Rattle.dn_place.specs.Hops.{hops_view}
use Rattle.dn_place.specs.Preimages.{IsWayTo}
use Rattle.dn_place.specs.Rows.{wanted_name}
use Rattle.dn_place.specs.Searches.{sought}
use Rattle.dn_place.proofs.iova.by_way.Goals as goal

pub shows_beside-requires-clause-addressed : goal.shows_beside-requires-clause-addressed
shows_beside-requires-clause-addressed g c = subst (λ (h : Hops). IsAddressed (sought (λ k. (goal.UnitKind-dyn g k).meaning k.1) c.args.search) (hops_view h) c.args.way.v) c.in-One.is c.requires.addressed

pub shows_beside-requires-clause-way : goal.shows_beside-requires-clause-way
shows_beside-requires-clause-way g c =
    let s = sought (λ k. (goal.UnitKind-dyn g k).meaning k.1) c.args.search in
    subst (λ (h : Hops). IsWayTo s.net s.request.agent (wanted_name s.request (hops_view h)) s.request.size c.args.way) c.in-One.is c.requires.way

pub returns-then-branch : goal.returns-then-branch
returns-then-branch g c =
    let s = sought (λ k. (goal.UnitKind-dyn g k).meaning k.1) c.args.search in
    subst (λ (h : Hops). NoneUnder s (to_address (length (hops_view h)) (hops_view h) c.args.way.v)) (sym c.in-One.is) (c.in_ok-shows_beside.ensures c.if-branch.true)
