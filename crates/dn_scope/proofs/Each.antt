-- What each item of a list gives, item by item.
use Rattle.std.proofs.Common.{◌≡◌, ◌∙◌, ap, sym, refl, ℕ, ◌+◌, ◌<◌, List, [], ◌∷◌, ◌++◌, drop, get_or, length, Result, Ok, Err}
use Rattle.std.proofs.lemmas.List.{append_assoc}
use Rattle.dn_base.proofs.Lists.{drop_at}
use Rattle.dn_scope.specs.Values.{◌>>=◌, each}

-- what was made, and then the rest
abbrev pub followed : {Y E : Type 0} → List Y → Result (List Y) E → Result (List Y) E
followed made rest = rest >>= (λ ys. Ok (made ++ ys))

-- one that is made, and then those behind it
pub after_one : {Y E : Type 0} (made : List Y) (y : Y) (o : Result (List Y) E) → followed made (o >>= (λ ys. Ok (y ∷ ys))) ≡ followed (made ++ y ∷ []) o
after_one made y (Err e) = refl
after_one made y (Ok ys) = ap (λ l. Ok l) (sym (append_assoc made (y ∷ []) ys))

-- one more item made, with which the list is longer
pub made_next : {X Y E : Type 0} (f : X → Result Y E) (xs : List X) (i : ℕ) (x : X) (y : Y) (made longer : List Y) → i < length xs → x ≡ get_or xs i x → f x ≡ Ok y → longer ≡ made ++ y ∷ [] → each f xs ≡ followed made (each f (drop i xs)) → each f xs ≡ followed longer (each f (drop (i + 1) xs))
made_next f xs i x y made longer h at is e so_far =
    so_far
    ∙ ap (λ l. followed made (each f l)) (drop_at xs i x h at)
    ∙ ap (λ o. followed made (o >>= (λ y. each f (drop (i + 1) xs) >>= (λ ys. Ok (y ∷ ys))))) is
    ∙ after_one made y (each f (drop (i + 1) xs))
    ∙ ap (λ l. followed l (each f (drop (i + 1) xs))) (sym e)
