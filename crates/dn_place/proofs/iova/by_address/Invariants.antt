use Rattle.std.proofs.Common.{length, ◌-◌, ◌≤◌}
use Rattle.dn_place.specs.Hops.{hops_view}
use Rattle.dn_place.specs.Candidates.{to_address}
use Rattle.dn_place.specs.Searches.{sought}
use Rattle.dn_place.proofs.Levels.{NoneBelow}
use Rattle.dn_place.proofs.iova.by_address.Given as goal

abbrev pub invariant-pages : goal.invariant-pages
invariant-pages g l = record {
  few : l.from ≤ 41;
  below : NoneBelow (sought (λ k. (goal.UnitKind-dyn g k).meaning k.1) l.search) (to_address (length (hops_view l.hops)) (hops_view l.hops) l.v) l.from;
}

abbrev pub decreases-pages : goal.decreases-pages
decreases-pages g l = 41 - l.from
