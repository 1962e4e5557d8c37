-- What `cmp` answers at numbers, and the rest of a list that is sorted by it.
use Rattle.std.proofs.Common.{◌≡◌, ℕ, suc, ◌+◌, ◌<◌, false, cond, nat_eq, List, ◌∷◌, get_or, ap, ◌∙◌, subst, arith}
use Rattle.std.specs.List.Sorted.{IsSorted}
use Rattle.std.specs.Ordering.{nat_cmp, is_lt}
use Rattle.std.specs.declared.cmp.Ordering.{Ordering}
use Rattle.std.specs.declared.cmp.Ordering.TheVariants.{Less, Equal, Greater}
use Rattle.std.proofs.lemmas.Bool.{eq-eqb, lt-ltb, le-ltb}

pub less : (x y : ℕ) → x < y → nat_cmp x y ≡ Less
less x y l = ap (λ b. cond b Less (cond (nat_eq x y) Equal Greater)) (lt-ltb x y l)

pub equal : (x y : ℕ) → x ≡ y → nat_cmp x y ≡ Equal
equal x y e = ap (λ b. cond b Less (cond (nat_eq x y) Equal Greater)) (le-ltb x y (omega arith)) ∙ ap (λ b. cond b Equal Greater) (eq-eqb x y e)

-- without its first item a sorted list is sorted still
pub rest_sorted : {X : Type 0} (cmp : X → X → Ordering) (x y : X) (xs : List X) → IsSorted cmp (x ∷ y ∷ xs) → IsSorted cmp (y ∷ xs)
rest_sorted {X} cmp x y xs h = λ k d u v. further k d (h (suc k) d (omega arith) (omega arith))
  where
    further : (k : ℕ) (d : X) → is_lt (cmp (get_or (x ∷ y ∷ xs) (suc k + 1) d) (get_or (x ∷ y ∷ xs) (suc k) d)) ≡ false → is_lt (cmp (get_or (y ∷ xs) (k + 1) d) (get_or (y ∷ xs) k d)) ≡ false
    further k d h = let e : suc k + 1 ≡ suc (k + 1) = omega arith in subst (λ n. is_lt (cmp (get_or (x ∷ y ∷ xs) n d) (get_or (y ∷ xs) k d)) ≡ false) e h
