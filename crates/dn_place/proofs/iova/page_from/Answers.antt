use Rattle.std.proofs.Common.{◌≡◌, ◌<◌, ◌≤◌, ◌⊎◌, inl, inr, ℕ, Some, slice_get, length, arith}
use Rattle.std.proofs.lemmas.Bool.{cases_lt}
use Rattle.std.proofs.lemmas.Option.{slice_get_within}
use Rattle.dn_tables.specs.declared.placement.Hop.{Hop}
use Rattle.dn_placement.specs.Order.{hop_page}
use Rattle.dn_place.specs.Hops.{hops_view}
use Rattle.dn_place.specs.Searches.{sought}
use Rattle.dn_place.proofs.Pages.{page_bound}
use Rattle.dn_place.proofs.iova.page_from.Goals as goal

pub returns-then-best-eq41-clause-none : goal.returns-then-best-eq41-clause-none
returns-then-best-eq41-clause-none g c = λ k h e. go k h e (cases_lt (hop_page (sought (λ k. (goal.UnitKind-dyn g k).meaning k.1) c.args.search).net (Some h)) c.args.from)
  where
    go : (k : ℕ) (h : Hop) → slice_get (hops_view c.args.hops) k ≡ Some h → (hop_page (sought (λ k. (goal.UnitKind-dyn g k).meaning k.1) c.args.search).net (Some h) < c.args.from) ⊎ (c.args.from ≤ hop_page (sought (λ k. (goal.UnitKind-dyn g k).meaning k.1) c.args.search).net (Some h)) → hop_page (sought (λ k. (goal.UnitKind-dyn g k).meaning k.1) c.args.search).net (Some h) < c.args.from
    go k h e (inl l) = l
    go k h e (inr l) =
        let w : k < length (hops_view c.args.hops) = slice_get_within (hops_view c.args.hops) k h e in
        let b = page_bound (sought (λ k. (goal.UnitKind-dyn g k).meaning k.1) c.args.search).net h c.requires.search.ready.bounds in
        omega (arith, c.loop-i.invariant.between k h (omega arith) e l)
