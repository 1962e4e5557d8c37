use Rattle.std.proofs.Common.{arith, length}
use Rattle.dn_place.specs.Hops.{hops_view}
use Rattle.dn_place.specs.Candidates.{to_address}
use Rattle.dn_place.specs.Searches.{sought}
use Rattle.dn_place.proofs.Levels.{begun, next_one, found_first}
use Rattle.dn_place.proofs.Wholes.{pages_leapt, pages_done}
use Rattle.dn_place.proofs.iova.by_address.Goals as goal

pub pages-init : goal.pages-init
pages-init g c = record { few = omega arith; below = begun _ _ }

pub returns-in-Some-2 : goal.returns-in-Some-2
returns-in-Some-2 g c = found_first (sought (λ k. (goal.UnitKind-dyn g k).meaning k.1) c.args.search) (to_address (length (hops_view c.args.hops)) (hops_view c.args.hops) c.args.v) c.in-Some.page c.in-Some-2.placement (pages_leapt (sought (λ k. (goal.UnitKind-dyn g k).meaning k.1) c.args.search) (hops_view c.args.hops) c.args.v c.pages.from c.in-Some.page c.in-Some.ensures.between c.pages.invariant.below) (rw c.in-Some-2.is at c.in_ok-placement.ensures)

pub pages-preserved : goal.pages-preserved
pages-preserved g c = record {
  few = omega (arith, c.in-Some.ensures.most);
  below = next_one _ _ _ (pages_leapt (sought (λ k. (goal.UnitKind-dyn g k).meaning k.1) c.args.search) (hops_view c.args.hops) c.args.v c.pages.from c.in-Some.page c.in-Some.ensures.between c.pages.invariant.below) (rw c.in_default-2.is at c.in_ok-placement.ensures);
}

pub returns : goal.returns
returns g c = pages_done (sought (λ k. (goal.UnitKind-dyn g k).meaning k.1) c.args.search) (hops_view c.args.hops) c.args.v c.pages.from c.in_default.ensures.none c.pages.invariant.below
