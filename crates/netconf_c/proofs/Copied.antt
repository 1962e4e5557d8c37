-- Items that are written to the front of a list, one after another.
use Rattle.std.proofs.Common.{◌≡◌, ◌∙◌, refl, sym, ap, arith, ℕ, zero, suc, ◌+◌, ◌<◌, List, [], ◌∷◌, ◌++◌, length, map, take, drop, get_or, set}
use Rattle.std.proofs.lemmas.List.{get_or-drop, length-drop}

-- one more item
copied_more : {X Y : Type 0} (f : X → Y) (xs : List X) (ys : List Y) (at : ℕ) (d : X) → at < length xs → at < length ys → set (map f (take at xs) ++ drop at ys) at (f (get_or xs at d)) ≡ map f (take (suc at) xs) ++ drop (suc at) ys
copied_more f [] ys at d l m = absurd (none l)
  where
    none : at < 0 → ⊥
    none i = omega arith
copied_more f (x ∷ xs) [] at d l m = absurd (none m)
  where
    none : at < 0 → ⊥
    none i = omega arith
copied_more f (x ∷ xs) (y ∷ ys) zero d l m = refl
copied_more f (x ∷ xs) (y ∷ ys) (suc at) d l m = ap (λ zs. f x ∷ zs) (copied_more f xs ys at d (omega arith) (omega arith))

-- the next of the items from a number on
pub copied_next : {X Y : Type 0} (f : X → Y) (all : List X) (ys out : List Y) (from at : ℕ) (d : X) (y : Y) → from + at < length all → at < length ys → out ≡ map f (take at (drop from all)) ++ drop at ys → y ≡ f (get_or all (from + at) d) → set out at y ≡ map f (take (at + 1) (drop from all)) ++ drop (at + 1) ys
copied_next f all ys out from at d y l m is e =
    let more : suc at ≡ at + 1 = omega arith in
    let count = length-drop from all in
    (λ i. set (is i) at (e i))
    ∙ ap (λ x. set (map f (take at (drop from all)) ++ drop at ys) at (f x)) (sym (get_or-drop from all at d))
    ∙ copied_more f (drop from all) ys at d (omega arith) m
    ∙ ap (λ n. map f (take n (drop from all)) ++ drop n ys) more

-- the next of the items from the first on
pub copied_front : {X Y : Type 0} (f : X → Y) (xs : List X) (ys out : List Y) (at : ℕ) (d : X) (y : Y) → at < length xs → at < length ys → out ≡ map f (take at xs) ++ drop at ys → y ≡ f (get_or xs at d) → set out at y ≡ map f (take (at + 1) xs) ++ drop (at + 1) ys
copied_front f xs ys out at d y l m is e =
    let more : suc at ≡ at + 1 = omega arith in
    (λ i. set (is i) at (e i)) ∙ copied_more f xs ys at d l m ∙ ap (λ n. map f (take n xs) ++ drop n ys) more
