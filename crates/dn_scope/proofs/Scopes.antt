-- What stands for the words of a body, in the entries that are kept.
use Rattle.std.proofs.Common.{◌≡◌, ◌∙◌, ap, sym, refl, arith, ℕ, zero, suc, Bool, true, false, ◌+◌, ◌-◌, ◌<◌, ◌≤◌, List, [], ◌∷◌, ◌++◌, length, get_or, take, map, reverse, None, Some, cond}
use Rattle.std.proofs.lemmas.List.{map_more, reverse-append}
use Rattle.std.proofs.lemmas.Cmp.{nat_list_eq_equiv}
use Rattle.std.specs.Str.{bytes_eq}
use Rattle.dn_scope.specs.declared.scope.Number.{Number}
use Rattle.dn_scope.specs.Replace.{value_for_word}
use Rattle.dn_scope.proofs.Replaced.{or_else, value_for_word-append}

-- what an inner list has
pub found_within : {A : Type 0} (w : List ℕ) (xs ys : List (List ℕ × A)) (a : A) → Some a ≡ value_for_word w xs → Some a ≡ value_for_word w (xs ++ ys)
found_within w xs ys a e = ap (λ o. or_else o (value_for_word w ys)) e ∙ sym (value_for_word-append w xs ys)

-- what an inner list does not have
pub found_outside : {A : Type 0} (w : List ℕ) (xs ys : List (List ℕ × A)) → None ≡ value_for_word w xs → value_for_word w (xs ++ ys) ≡ value_for_word w ys
found_outside w xs ys e = value_for_word-append w xs ys ∙ ap (λ o. or_else o (value_for_word w ys)) (sym e)

abbrev pub numbered : Number → List ℕ × ℕ
numbered n = (n.word.now, n.number)

-- an item is the same, whatever stands for one past the end
pub at_any : {A : Type 0} (xs : List A) (i : ℕ) (d : A) → i < length xs → get_or xs i d ≡ get_or xs i (get_or xs i d)
at_any [] i d h = absurd (omega arith)
at_any (x ∷ xs) zero d h = refl
at_any (x ∷ xs) (suc i) d h = at_any_next xs i d (get_or xs i d) (omega arith)
  where
    at_any_next : {A : Type 0} (xs : List A) (i : ℕ) (d e : A) → i < length xs → get_or xs i d ≡ get_or xs i e
    at_any_next [] i d e h = absurd (omega arith)
    at_any_next (x ∷ xs) zero d e h = refl
    at_any_next (x ∷ xs) (suc i) d e h = at_any_next xs i d e (omega arith)

-- the last of the loop variables is the innermost
module _ (w : List ℕ) (ns : List Number) (left : ℕ) (d : Number) where
  -- the last one
  abbrev innermost : Number
  innermost = get_or ns (left - 1) d

  innermost_first : 0 < left → left ≤ length ns → value_for_word w (reverse (map numbered (take left ns))) ≡ cond (bytes_eq w innermost.word.now) (Some innermost.number) (value_for_word w (reverse (map numbered (take (left - 1) ns))))
  innermost_first more within =
      let one : left ≡ (left - 1) + 1 = omega arith in
      let before = map numbered (take (left - 1) ns) in
      ap (λ k. value_for_word w (reverse (map numbered (take k ns)))) one
      ∙ ap (λ l. value_for_word w (reverse l)) (map_more numbered ns (left - 1) innermost (omega arith))
      ∙ ap (λ (m : Number). value_for_word w (reverse (before ++ numbered m ∷ []))) (sym (at_any ns (left - 1) d (omega arith)))
      ∙ ap (value_for_word w) (reverse-append before (numbered innermost ∷ []))

  pub innermost_met : 0 < left → left ≤ length ns → bytes_eq innermost.word.now w ≡ true → value_for_word w (reverse (map numbered (take left ns))) ≡ Some innermost.number
  innermost_met more within is =
      innermost_first more within
      ∙ ap (λ (b : Bool). cond b (Some innermost.number) (value_for_word w (reverse (map numbered (take (left - 1) ns))))) (nat_list_eq_equiv.symm w innermost.word.now ∙ is)

  pub innermost_other : 0 < left → left ≤ length ns → bytes_eq innermost.word.now w ≡ false → value_for_word w (reverse (map numbered (take left ns))) ≡ value_for_word w (reverse (map numbered (take (left - 1) ns)))
  innermost_other more within is =
      innermost_first more within
      ∙ ap (λ (b : Bool). cond b (Some innermost.number) (value_for_word w (reverse (map numbered (take (left - 1) ns))))) (nat_list_eq_equiv.symm w innermost.word.now ∙ is)
