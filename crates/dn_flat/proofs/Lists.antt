-- Lists item by item, as loops go over them.
use Rattle.std.proofs.Common.{◌≡◌, ℕ, zero, suc, ◌+◌, ◌<◌, ◌↔◌, Bool, true, false, ◌&&◌, ◌||◌, List, [], ◌∷◌, ◌++◌, take, drop, length, get_or, slice_get, Option, Some, Result, Ok, Err, IfOk, refl, sym, ap, ◌∙◌, subst, arith, ◌==◌, eqb-true}
use Rattle.std.specs.List.{list_any}
use Rattle.std.proofs.lemmas.List.{take_more}
use Rattle.std.proofs.lemmas.List.Folds.{list_any-append}
use Rattle.dn_base.proofs.Booleans.{or-false}
use Rattle.dn_base.proofs.Lists.{drop_at}

-- a test of the items so far, and of one more
pub any_more : {X : Type 0} (p : X → Bool) (xs : List X) (i : ℕ) (x : X) → i < length xs → x ≡ get_or xs i x → list_any p (take (i + 1) xs) ≡ (list_any p (take i xs) || p x)
any_more p xs i x l is =
    ap (list_any p) (take_more xs i x l ∙ ap (λ y. take i xs ++ y ∷ []) (sym is))
    ∙ list_any-append p (take i xs) (x ∷ [])
    ∙ ap (λ t. list_any p (take i xs) || t) (or-false (p x))

-- what was found, and the items that are still to come
pub pushed : {X : Type 0} (p : X → Bool) (q : Bool) (xs : List X) (i : ℕ) (x : X) (now new whole : Bool) → i < length xs → x ≡ get_or xs i x → (now || (q && list_any p (drop i xs))) ≡ whole → new ≡ (now || (q && p x)) → (new || (q && list_any p (drop (i + 1) xs))) ≡ whole
pushed p q xs i x now new whole l is was e =
    ap (λ t. t || (q && list_any p (drop (i + 1) xs))) e
    ∙ go now q (p x) (list_any p (drop (i + 1) xs))
    ∙ ap (λ t. now || (q && list_any p t)) (sym (drop_at xs i x l is))
    ∙ was
  where
    go : (n q g r : Bool) → ((n || (q && g)) || (q && r)) ≡ (n || (q && (g || r)))
    go true q g r = refl
    go false true g r = refl
    go false false g r = refl

-- what holds of each item at its place holds of each where one more is put behind
pub each_pushed : {X : Type 0} (P : ℕ → X → Type 0) (xs : List X) (x : X) → ((m : ℕ) (y : X) → slice_get xs m ≡ Some y → P m y) → P (length xs) x → (m : ℕ) (y : X) → slice_get (xs ++ x ∷ []) m ≡ Some y → P m y
each_pushed P [] x f p zero y e = subst (λ w. P 0 w) (some_one x y e) p
  where
    some_one : {X : Type 0} (x y : X) → ◌≡◌ {A = Option X} (Some x) (Some y) → x ≡ y
    some_one x y e = cc
each_pushed P [] x f p (suc m) y e = cc
each_pushed P (z ∷ xs) x f p zero y e = f 0 y e
each_pushed P (z ∷ xs) x f p (suc m) y e = each_pushed (λ n w. P (suc n) w) xs x (λ n w g. f (suc n) w g) p m y e

-- one more segment of a span whose addresses stay
pub stay_more : (old g h p more q : Bool) → old ≡ (h && q) → g ≡ (p && q) → more ≡ (h || p) → (old || (g || false)) ≡ (more && q)
stay_more old g h p more q e f m = ap (λ t. t || (g || false)) e ∙ ap (λ t. (h && q) || (t || false)) f ∙ go h p q ∙ ap (λ t. t && q) (sym m)
  where
    go : (h p q : Bool) → ((h && q) || ((p && q) || false)) ≡ ((h || p) && q)
    go true p true = refl
    go true true false = refl
    go true false false = refl
    go false true true = refl
    go false true false = refl
    go false false q = refl

-- an equation of tests hands on what one means
pub means_along : {P : Type 0} (new old : Bool) → new ≡ old → (old ≡ true) ↔ P → (new ≡ true) ↔ P
means_along new old e f = ((λ g. f.0 (sym e ∙ g)), (λ p. e ∙ f.1 p))

-- two facts of what a call answers make a third
pub both_ok : {A E : Type 0} (r : Result A E) (P Q R : A → Type 0) → ((x : A) → P x → Q x → R x) → IfOk r P → IfOk r Q → IfOk r R
both_ok (Ok x) P Q R f p q = f x p q
both_ok (Err e) P Q R f p q = p

pub none_of : {X : Type 0} (xs : List X) → (length xs == 0) ≡ true → xs ≡ []
none_of [] e = refl
none_of (x ∷ xs) e = let l : length (x ∷ xs) ≡ 0 = eqb-true (length (x ∷ xs)) 0 e in absurd (omega arith)

pub length_pushed : {X : Type 0} (xs : List X) (x : X) (n : ℕ) → length xs ≡ n → length (xs ++ x ∷ []) ≡ n + 1
length_pushed [] x n e = let f : 0 ≡ n = e in omega arith
length_pushed (z ∷ xs) x zero e = absurd (omega arith)
length_pushed (z ∷ xs) x (suc n) e = let h : length (xs ++ x ∷ []) ≡ n + 1 = length_pushed xs x n (omega arith) in omega arith
