use Rattle.std.proofs.Common.{◌≡◌, ◌<◌, ◌≤◌, ℕ, Some, slice_get}
use Rattle.dn_tables.specs.declared.placement.Hop.{Hop}
use Rattle.dn_placement.specs.Order.{hop_page}
use Rattle.dn_place.specs.Hops.{hops_view}
use Rattle.dn_place.specs.Searches.{sought}
use Rattle.dn_place.proofs.iova.page_from.Given as goal

abbrev pub invariant-loop-i : goal.invariant-loop-i
invariant-loop-i g l = record {
  past : l.from ≤ l.best;
  most : l.best ≤ 41;
  between : (k : ℕ) (h : Hop) → k < l.i → slice_get (hops_view l.hops) k ≡ Some h → l.from ≤ hop_page (sought (λ k. (goal.UnitKind-dyn g k).meaning k.1) l.search).net (Some h) → l.best ≤ hop_page (sought (λ k. (goal.UnitKind-dyn g k).meaning k.1) l.search).net (Some h);
}
