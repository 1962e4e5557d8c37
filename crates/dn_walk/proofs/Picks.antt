-- The items between two places, as those that pass two tests.
use Rattle.std.proofs.Common.{◌≡◌, ℕ, zero, suc, ◌-◌, ◌<◌, ◌≤◌, Bool, true, false, cond, ◌&&◌, ◌||◌, List, [], ◌∷◌, length, get_or, take, drop, refl, sym, ap, ◌∙◌, arith}
use Rattle.std.specs.List.{filter, list_any}

abbrev pub Before : {X : Type 0} → (X → Type 0) → List X → ℕ → Type 0
Before {X} P xs i = (k : ℕ) (d : X) → k < i → P (get_or xs k d)

abbrev pub From : {X : Type 0} → (X → Type 0) → List X → ℕ → Type 0
From {X} P xs i = (k : ℕ) (d : X) → i ≤ k → k < length xs → P (get_or xs k d)

before_rest : {X : Type 0} (P : X → Type 0) (x : X) (xs : List X) (i : ℕ) → Before P (x ∷ xs) (suc i) → Before P xs i
before_rest P x xs i h = λ k d l. h (suc k) d (omega arith)

from_rest : {X : Type 0} (P : X → Type 0) (x : X) (xs : List X) (i : ℕ) → From P (x ∷ xs) (suc i) → From P xs i
from_rest P x xs i h = λ k d l m. h (suc k) d (omega arith) (omega arith)

from_all : {X : Type 0} (P : X → Type 0) (x : X) (xs : List X) → From P (x ∷ xs) 0 → From P xs 0
from_all P x xs h = λ k d l m. h (suc k) d (omega arith) (omega arith)

none_pass : {X : Type 0} (p q : X → Bool) (xs : List X) → From (λ x. q x ≡ false) xs 0 → filter (λ x. p x && q x) xs ≡ []
none_pass p q [] h = refl
none_pass p q (x ∷ xs) h = by (p x) (q x) (h 0 x (omega arith) (omega arith)) (none_pass p q xs (from_all (λ x. q x ≡ false) x xs h))
  where
    by : (a b : Bool) → b ≡ false → filter (λ x. p x && q x) xs ≡ [] → cond (a && b) (x ∷ filter (λ x. p x && q x) xs) (filter (λ x. p x && q x) xs) ≡ []
    by true true e ih = cc
    by true false e ih = ih
    by false b e ih = ih

-- those below the first place fail the one test, and those from the second place on fail the other
pub record Between {X : Type 0} (p q : X → Bool) (xs : List X) (i j : ℕ) : Type 0 where
  pub low : Before (λ x. p x ≡ false) xs i
  pub high : From (λ x. p x ≡ true) xs i
  pub begun : Before (λ x. q x ≡ true) xs j
  pub over : From (λ x. q x ≡ false) xs j

pub between_is : {X : Type 0} (p q : X → Bool) (xs : List X) (i j : ℕ) → i ≤ j → j ≤ length xs → Between p q xs i j → take (j - i) (drop i xs) ≡ filter (λ x. p x && q x) xs
between_is p q [] zero zero l m h = refl
between_is p q [] zero (suc j) l m h = absurd (omega arith)
between_is p q [] (suc i) j l m h = absurd (omega arith)
between_is p q (x ∷ xs) zero zero l m h = sym (none_pass p q (x ∷ xs) h.over)
between_is {X} p q (x ∷ xs) zero (suc j) l m h =
    let s : suc j - 0 ≡ suc j = omega arith in
    let t : j - 0 ≡ j = omega arith in
    let e : p x ≡ true = h.high 0 x (omega arith) (omega arith) in
    let f : q x ≡ true = h.begun 0 x (omega arith) in
    let r : Between p q xs 0 j = record { low = λ k d l. absurd (omega arith); high = from_all (λ x. p x ≡ true) x xs h.high; begun = before_rest (λ x. q x ≡ true) x xs j h.begun; over = from_rest (λ x. q x ≡ false) x xs j h.over } in
    let ih : take (j - 0) xs ≡ filter (λ x. p x && q x) xs = between_is p q xs 0 j (omega arith) (omega arith) r in
    ap (λ n. take n (x ∷ xs)) s ∙ ap (λ l. x ∷ l) (ap (λ n. take n xs) (sym t) ∙ ih) ∙ taken (p x) (q x) e f
  where
    taken : (a b : Bool) → a ≡ true → b ≡ true → x ∷ filter (λ x. p x && q x) xs ≡ cond (a && b) (x ∷ filter (λ x. p x && q x) xs) (filter (λ x. p x && q x) xs)
    taken true true e f = refl
    taken true false e f = cc
    taken false b e f = cc
between_is p q (x ∷ xs) (suc i) zero l m h = absurd (omega arith)
between_is {X} p q (x ∷ xs) (suc i) (suc j) l m h =
    let s : suc j - suc i ≡ j - i = omega arith in
    let e : p x ≡ false = h.low 0 x (omega arith) in
    let r : Between p q xs i j = record { low = before_rest (λ x. p x ≡ false) x xs i h.low; high = from_rest (λ x. p x ≡ true) x xs i h.high; begun = before_rest (λ x. q x ≡ true) x xs j h.begun; over = from_rest (λ x. q x ≡ false) x xs j h.over } in
    ap (λ n. take n (drop i xs)) s ∙ between_is p q xs i j (omega arith) (omega arith) r ∙ left (p x) (q x) e
  where
    left : (a b : Bool) → a ≡ false → filter (λ x. p x && q x) xs ≡ cond (a && b) (x ∷ filter (λ x. p x && q x) xs) (filter (λ x. p x && q x) xs)
    left true b e = cc
    left false b e = refl

-- a test that only items of the list that is picked pass
pub any_picked : {X : Type 0} (p q : X → Bool) → ((x : X) → p x ≡ true → q x ≡ true) → (xs : List X) → list_any p (filter q xs) ≡ list_any p xs
any_picked p q f [] = refl
any_picked p q f (x ∷ xs) = by (p x) (q x) refl (f x) (any_picked p q f xs)
  where
    by : (a b : Bool) → p x ≡ a → (a ≡ true → b ≡ true) → list_any p (filter q xs) ≡ list_any p xs → list_any p (cond b (x ∷ filter q xs) (filter q xs)) ≡ (a || list_any p xs)
    by a true e g ih = rw e (ap (λ t. a || t) ih)
    by true false e g ih = let c = g refl in cc
    by false false e g ih = ih
