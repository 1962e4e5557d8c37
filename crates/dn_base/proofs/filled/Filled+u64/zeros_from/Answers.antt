-- Behind the last page that was made, or behind the last item, there is 0.
use Rattle.std.proofs.Common.{◌≡◌, ◌≤◌, subst, arith, get_or, length, List, ℕ}
use Rattle.std.proofs.lemmas.List.{get_or_past}
use Rattle.std.proofs.lemmas.List.FromFn.{length-map-range_with_len}
use Rattle.dn_base.specs.Paged.{item_at, paged_items}
use Rattle.dn_base.proofs.Paging.{zeros_behind}
use Rattle.dn_base.proofs.filled.Filled+u64.zeros_from.Goals as goal

pub returns-then-self-ne0 : goal.returns-then-self-ne0
returns-then-self-ne0 c k l =
    let inside = c.self.inside in
    let e = length-map-range_with_len (item_at inside.items.items inside.ends.items inside.rest) 0 inside.count in
    let past : length (paged_items inside.items.items inside.ends.items inside.rest inside.count) ≤ k = omega (arith, e, l) in
    subst (λ (ws : List ℕ). get_or ws k 0 ≡ 0) c.self.view_is (get_or_past (paged_items inside.items.items inside.ends.items inside.rest inside.count) k 0 past)

pub returns : goal.returns
returns c k l =
    let inside = c.self.inside in
    let none : inside.rest ≡ 0 = c.if-self-ne0.false in
    subst (λ (ws : List ℕ). get_or ws k 0 ≡ 0) c.self.view_is (zeros_behind inside.items.items inside.ends.items inside.rest inside.count inside.top none c.self.invariant.1.none k l)
