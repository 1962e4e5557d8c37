use Rattle.std.proofs.Common.{length}
use Rattle.dn_place.specs.Hops.{hops_view}
use Rattle.dn_place.specs.Candidates.{to_page}
use Rattle.dn_place.specs.Searches.{sought}
use Rattle.dn_place.proofs.Levels.{NoneBelow}
use Rattle.dn_place.proofs.iova.by_page.Given as goal

abbrev pub invariant-loop-back : goal.invariant-loop-back
invariant-loop-back g l = NoneBelow (sought (λ k. (goal.UnitKind-dyn g k).meaning k.1) l.search) (to_page (length (hops_view l.hops)) (hops_view l.hops) l.v l.page) l.back
