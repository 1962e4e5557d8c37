-- What holds of some item of a list, place by place.
use Rattle.std.proofs.Common.{◌≡◌, ◌∙◌, ℕ, zero, suc, ◌+◌, ◌||◌, Bool, true, false, List, [], ◌∷◌, drop, slice_get, refl, sym, ap, add-one}
use Rattle.std.specs.List.{list_any}
use Rattle.std.specs.Option.{option_map_or}

-- what holds of an item from a place on holds of the one there, where there is one, or of a later one
any_from : {X : Type 0} (p : X → Bool) (xs : List X) (i : ℕ) → list_any p (drop i xs) ≡ (option_map_or p (slice_get xs i) false || list_any p (drop (suc i) xs))
any_from p [] zero = refl
any_from p [] (suc i) = refl
any_from p (x ∷ xs) zero = refl
any_from p (x ∷ xs) (suc i) = any_from p xs i

one_passed : (m t r d all t' : Bool) → t' ≡ (m || t) → d ≡ (m || r) → (t || d) ≡ all → (t' || r) ≡ all
one_passed true true r d all t' f g h = ap (λ b. b || r) f ∙ h
one_passed true false r d all t' f g h = ap (λ b. b || r) f ∙ sym g ∙ h
one_passed false t r d all t' f g h = ap (λ b. b || r) f ∙ ap (λ b. t || b) (sym g) ∙ h

-- what was found so far or is still to come, with the item at one more place
pub passed : {X : Type 0} (p : X → Bool) (xs : List X) (i : ℕ) (all t t' : Bool) → t' ≡ (option_map_or p (slice_get xs i) false || t) → (t || list_any p (drop i xs)) ≡ all → (t' || list_any p (drop (i + 1) xs)) ≡ all
passed p xs i all t t' f h =
    ap (λ n. t' || list_any p (drop n xs)) (add-one i)
    ∙ one_passed (option_map_or p (slice_get xs i) false) t (list_any p (drop (suc i) xs)) (list_any p (drop i xs)) all t' f (any_from p xs i) h
