use Rattle.std.proofs.Common.{◌≡◌, suc, ◌<◌, List, length, ap, subst, sym, arith}
use Rattle.dn_tables.specs.declared.placement.Hop.{Hop}
use Rattle.dn_place.specs.Candidates.{IsChosen, IsFirstUnder, NoneUnder, key_of_hops}
use Rattle.dn_place.specs.Hops.{hops_view}
use Rattle.dn_place.specs.Searches.{sought}
use Rattle.dn_place.proofs.Cursors.{given_all, given_first, given_none}
use Rattle.dn_place.proofs.first.with_second.Goals as goal

pub given-init : goal.given-init
given-init g c =
    let s = sought (λ k. (goal.UnitKind-dyn g k).meaning k.1) c.args.search in
    let count = c.args.search.count in
    let nearer = hops_view c.args.nearer in
    let units = c.args.search.reach.now.units.items in
    let less : length nearer < count = omega (arith, c.requires.two) in
    record {
      cursor = c.new-hops.ensures.cursor s count nearer units c.requires.search.reach.units;
      all = c.new-hops.ensures.all s count nearer units c.requires.search.reach.units less;
    }

pub next-requires-clause-more : goal.next-requires-clause-more
next-requires-clause-more g c = omega (arith, c.requires.two)

pub next-requires-clause-cursor : goal.next-requires-clause-cursor
next-requires-clause-cursor g c = c.given.invariant.cursor

pub behind-requires : goal.behind-requires
behind-requires g c = omega (arith, c.requires.two, c.requires.chosen.most)

pub with_first-requires-clause-chosen : goal.with_first-requires-clause-chosen
with_first-requires-clause-chosen g c =
    let s = sought (λ k. (goal.UnitKind-dyn g k).meaning k.1) c.args.search in
    let count = c.args.search.count in
    let nearer = hops_view c.args.nearer in
    let units = c.args.search.reach.now.units.items in
    let gives = rw c.in-Some.is at c.in_ok-hop.ensures.some in
    subst (λ (hs : List Hop). IsChosen s count hs) (sym c.behind.ensures) gives.chosen

pub with_first-requires-clause-one : goal.with_first-requires-clause-one
with_first-requires-clause-one g c =
    let long : length (hops_view c.behind.result) ≡ suc (length (hops_view c.args.nearer)) = ap length c.behind.ensures in
    omega (arith, long, c.requires.two)

pub returns-in-Some-2 : goal.returns-in-Some-2
returns-in-Some-2 g c =
    let s = sought (λ k. (goal.UnitKind-dyn g k).meaning k.1) c.args.search in
    let count = c.args.search.count in
    let nearer = hops_view c.args.nearer in
    let units = c.args.search.reach.now.units.items in
    let gives = rw c.in-Some.is at c.in_ok-hop.ensures.some in
    let found = rw c.in-Some-2.is at c.in_ok-placement.ensures in
    given_first s count nearer units c.given.hops c.next.new.self c.in-Some.hop c.in-Some-2.placement c.given.invariant.all gives (subst (λ (hs : List Hop). IsFirstUnder s (key_of_hops count hs) c.in-Some-2.placement) c.behind.ensures found)

pub given-preserved : goal.given-preserved
given-preserved g c =
    let s = sought (λ k. (goal.UnitKind-dyn g k).meaning k.1) c.args.search in
    let count = c.args.search.count in
    let nearer = hops_view c.args.nearer in
    let units = c.args.search.reach.now.units.items in
    let gives = rw c.in-Some.is at c.in_ok-hop.ensures.some in
    let none = rw c.in_default-2.is at c.in_ok-placement.ensures in
    record {
      cursor = gives.cursor;
      all = given_none s count nearer units c.given.hops c.next.new.self c.in-Some.hop c.given.invariant.all gives (subst (λ (hs : List Hop). NoneUnder s (key_of_hops count hs)) c.behind.ensures none);
    }

pub given-smaller : goal.given-smaller
given-smaller g c = let gives = rw c.in-Some.is at c.in_ok-hop.ensures.some in gives.fewer

pub returns : goal.returns
returns g c =
    let s = sought (λ k. (goal.UnitKind-dyn g k).meaning k.1) c.args.search in
    let count = c.args.search.count in
    let nearer = hops_view c.args.nearer in
    let units = c.args.search.reach.now.units.items in
    given_all s count nearer units c.given.hops c.given.invariant.all (c.in_ok-hop.ensures.none c.in_default.is)
