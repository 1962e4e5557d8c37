use Rattle.std.proofs.Common.{IfSome}
use Rattle.dn_place.specs.declared.preimages.Preimages.{Preimages}
use Rattle.dn_place.specs.Preimages.{ArePreimages}
use Rattle.dn_place.specs.Cursors.{AreAllToCome, hops_left}
use Rattle.dn_place.specs.Hops.{hops_view}
use Rattle.dn_place.specs.Searches.{StandsAt, sought}
use Rattle.dn_place.proofs.first.with_first.Given as goal

abbrev pub invariant-given : goal.invariant-given
invariant-given g l = record {
  made : IfSome l.made (λ (p : Preimages). ArePreimages l.search.system.on.net.now l.search.request.agent p);
  cursor : StandsAt (λ k. (goal.UnitKind-dyn g k).meaning k.1) l.search l.nearer l.hops;
  all : AreAllToCome (sought (λ k. (goal.UnitKind-dyn g k).meaning k.1) l.search) l.search.count (hops_view l.nearer) l.search.reach.now.units.items l.hops;
}

abbrev pub decreases-given : goal.decreases-given
decreases-given g l = hops_left l.search.reach.now.units.items l.hops
