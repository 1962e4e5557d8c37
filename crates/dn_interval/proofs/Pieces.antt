-- The rest of a list from a place on, and a list as its first item and the others.
use Rattle.std.proofs.Common.{◌≡◌, ℕ, zero, suc, ◌-◌, ◌<◌, ◌≤◌, None, List, [], ◌∷◌, take, drop, length, get_or, refl, sym, ap, ◌∙◌, arith}
use Rattle.std.specs.List.{slice_get}

drop_suc : {X : Type 0} (xs : List X) (i : ℕ) (s : X) → i < length xs → s ≡ get_or xs i s → drop i xs ≡ s ∷ drop (suc i) xs
drop_suc [] i s l e = absurd (omega arith)
drop_suc (x ∷ xs) zero s l e = ap (λ t. t ∷ xs) (sym e)
drop_suc (x ∷ xs) (suc i) s l e = drop_suc xs i s (omega arith) e

take_whole : {X : Type 0} (xs : List X) (n : ℕ) → n ≡ length xs → take n xs ≡ xs
take_whole [] zero e = refl
take_whole [] (suc n) e = refl
take_whole (x ∷ xs) zero e = absurd (omega arith)
take_whole (x ∷ xs) (suc n) e = ap (λ t. x ∷ t) (take_whole xs n (omega arith))

-- `xs[0]` and `&xs[1..]`
pub first_and_rest : {X : Type 0} (xs : List X) (s : X) → 0 < length xs → s ≡ get_or xs 0 s → xs ≡ s ∷ take (length xs - 1) (drop 1 xs)
first_and_rest [] s l e = absurd (omega arith)
first_and_rest (x ∷ xs) s l e = let n : length (x ∷ xs) - 1 ≡ length xs = omega arith in ap (λ t. t ∷ xs) (sym e) ∙ ap (λ t. s ∷ t) (sym (take_whole xs (length (x ∷ xs) - 1) n))

-- what `get` finds

pub gone : {X : Type 0} (xs : List X) (i : ℕ) → length xs ≤ i → None ≡ slice_get xs i
gone [] i l = refl
gone (x ∷ xs) zero l = absurd (omega arith)
gone (x ∷ xs) (suc i) l = gone xs i (omega arith)
