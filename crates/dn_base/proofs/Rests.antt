-- Lists whose last items are all one value: more of them written out.
use Rattle.std.proofs.Common.{◌≡◌, ◌∙◌, ap, sym, ℕ, suc, ◌+◌, List, [], ◌∷◌, ◌++◌, replicate, append_assoc, append-nil, arith}

-- one of the last items is written out
pub one_written : {X : Type 0} (xs : List X) (n m : ℕ) (r : X) → n ≡ m + 1 → (xs ++ r ∷ []) ++ replicate m r ≡ xs ++ replicate n r
one_written xs n m r e = append_assoc xs (r ∷ []) (replicate m r) ∙ ap (λ k. xs ++ replicate k r) (more ∙ sym e)
  where
    more : suc m ≡ m + 1
    more = omega arith

-- all that are wanted are written out
pub none_left : {X : Type 0} (xs : List X) (n : ℕ) (r : X) → n ≡ 0 → xs ++ replicate n r ≡ xs
none_left xs n r e = ap (λ k. xs ++ replicate k r) e ∙ append-nil xs
