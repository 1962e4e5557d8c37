-- The first item that passes a test, item by item.
use Rattle.std.proofs.Common.{◌≡◌, ◌∙◌, ap, sym, ℕ, zero, suc, ◌+◌, ◌≤◌, Bool, true, false, cond, List, [], ◌∷◌, drop, length, position, slice_get, Some, None, option_map, arith}
use Rattle.std.specs.List.{position_from}
use Rattle.std.proofs.lemmas.List.{at_drop_all}
use Rattle.std.proofs.lemmas.Iterator.Adapters.{position_from-zero}

module _ {Y : Type 0} (p : Y → Bool) (ys : List Y) where
  -- before the first item all are to come
  pub place_begun : position p ys ≡ position_from p 0 ys
  place_begun = position_from-zero p ys

-- the first place from an item on, by whether it passes
place_from : {Y : Type 0} (p : Y → Bool) (n i : ℕ) (ys : List Y) (b : Bool) → option_map p (slice_get ys i) ≡ Some b → position_from p n (drop i ys) ≡ cond b (Some n) (position_from p (n + 1) (drop (i + 1) ys))
place_from p n i [] b at = cc
place_from p n zero (y ∷ ys) b at =
    let e : p y ≡ b = cc in
    ap (λ q. cond q (Some n) (position_from p (n + 1) ys)) e
place_from p n (suc i) (y ∷ ys) b at =
    let e : suc i + 1 ≡ suc (i + 1) = omega arith in
    place_from p n i ys b at
    ∙ ap (λ k. cond b (Some n) (position_from p (n + 1) (drop k (y ∷ ys)))) (sym e)

module _ {Y : Type 0} (p : Y → Bool) (ys : List Y) (i : ℕ) where
  -- the item at a place passes
  pub place_here : (b : Bool) → option_map p (slice_get ys i) ≡ Some b → b ≡ true → position_from p i (drop i ys) ≡ Some i
  place_here b at e = place_from p i i ys true (at ∙ ap (λ q. Some q) e)

  -- it does not, and the rest is to come
  pub place_next : (b : Bool) → option_map p (slice_get ys i) ≡ Some b → b ≡ false → position_from p i (drop i ys) ≡ position_from p (i + 1) (drop (i + 1) ys)
  place_next b at e = place_from p i i ys false (at ∙ ap (λ q. Some q) e)

  -- past the last item there is none
  pub place_past : length ys ≤ i → position_from p i (drop i ys) ≡ None
  place_past h = at_drop_all (λ zs. position_from p i zs) ys i h
