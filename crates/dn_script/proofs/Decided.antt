-- Facts that are decided: by tests and numbers, below a bound, along a list; and the first item of a list that passes.
use Rattle.std.proofs.Common.{◌≡◌, ◌∙◌, sym, ap, subst, refl, arith, ℕ, zero, suc, ◌<◌, ◌≤◌, ◌⊎◌, inl, inr, Bool, true, false, List, [], ◌∷◌, IsTrue}
use Rattle.std.proofs.lemmas.Bool.{cases_order}
use Rattle.dn_base.specs.Members.{Member}
use Rattle.dn_base.proofs.Booleans.{false≢true, false_from_ne_true}

-- the fact holds, or it does not
abbrev pub IsDecided : Type 0 → Type 0
IsDecided P = P ⊎ (P → ⊥)

-- what means the same as a decided fact is decided
pub same : {P Q : Type 0} → (P → Q) → (Q → P) → IsDecided P → IsDecided Q
same f g (inl p) = inl (f p)
same f g (inr n) = inr (λ q. n (g q))

-- both of two facts, one of them, and one where the other holds
pub both : {P Q : Type 0} → IsDecided P → IsDecided Q → IsDecided (P × Q)
both (inl p) (inl q) = inl (p, q)
both (inl p) (inr n) = inr (λ z. n z.1)
both (inr n) q = inr (λ z. n z.0)

pub either : {P Q : Type 0} → IsDecided P → IsDecided Q → IsDecided (P ⊎ Q)
either (inl p) q = inl (inl p)
either (inr n) (inl q) = inl (inr q)
either {P} {Q} (inr n) (inr m) = inr none
  where
    none : P ⊎ Q → ⊥
    none (inl p) = n p
    none (inr q) = m q

pub implied : {P Q : Type 0} → IsDecided P → IsDecided Q → IsDecided (P → Q)
implied (inl p) (inl q) = inl (λ _. q)
implied (inl p) (inr n) = inr (λ f. n (f p))
implied (inr n) q = inl (λ p. absurd (n p))

-- a test, and the order of two numbers
pub test_is : (b : Bool) → IsDecided (IsTrue b)
test_is true = inl refl
test_is false = inr (λ e. false≢true e)

pub number_is : (m n : ℕ) → IsDecided (m ≡ n)
number_is m n = by (cases_order m n)
  where
    by : (m ≡ n) ⊎ ((m < n) ⊎ (n < m)) → IsDecided (m ≡ n)
    by (inl e) = inl e
    by (inr (inl l)) = inr (λ e. omega arith)
    by (inr (inr l)) = inr (λ e. omega arith)

pub at_most : (m n : ℕ) → IsDecided (m ≤ n)
at_most m n = by (cases_order m n)
  where
    by : (m ≡ n) ⊎ ((m < n) ⊎ (n < m)) → IsDecided (m ≤ n)
    by (inl e) = inl (omega arith)
    by (inr (inl l)) = inl (omega arith)
    by (inr (inr l)) = inr (λ e. omega arith)

-- the last number below a bound, or one below it
pub last_or_below : (i n : ℕ) → i < suc n → (n ≡ i) ⊎ (i < n)
last_or_below i n l = by (cases_order i n)
  where
    by : (i ≡ n) ⊎ ((i < n) ⊎ (n < i)) → (n ≡ i) ⊎ (i < n)
    by (inl e) = inl (sym e)
    by (inr (inl m)) = inr m
    by (inr (inr m)) = absurd (omega arith)

-- at each number below a bound
pub all_below : (P : ℕ → Type 0) (n : ℕ) → ((i : ℕ) → IsDecided (P i)) → IsDecided ((i : ℕ) → i < n → P i)
all_below P zero d = inl (λ i l. absurd (omega arith))
all_below P (suc n) d = by (d n) (all_below P n d)
  where
    at : P n → ((i : ℕ) → i < n → P i) → (i : ℕ) → (n ≡ i) ⊎ (i < n) → P i
    at p q i (inl e) = subst P e p
    at p q i (inr l) = q i l

    by : IsDecided (P n) → IsDecided ((i : ℕ) → i < n → P i) → IsDecided ((i : ℕ) → i < suc n → P i)
    by (inl p) (inl q) = inl (λ i l. at p q i (last_or_below i n l))
    by (inl p) (inr m) = inr (λ f. m (λ i l. f i (omega arith)))
    by (inr m) q = inr (λ f. m (f n (omega arith)))

-- at some number below a bound
pub some_below : (P : ℕ → Type 0) (n : ℕ) → ((i : ℕ) → IsDecided (P i)) → IsDecided ((i : ℕ) × (i < n) × P i)
some_below P zero d = inr (λ z. absurd (let l = z.1 in omega arith))
some_below P (suc n) d = by (d n) (some_below P n d)
  where
    at : (P n → ⊥) → (((i : ℕ) × (i < n) × P i) → ⊥) → (i : ℕ) → P i → (n ≡ i) ⊎ (i < n) → ⊥
    at p q i h (inl e) = p (subst P (sym e) h)
    at p q i h (inr l) = q (i, l, h)

    by : IsDecided (P n) → IsDecided ((i : ℕ) × (i < n) × P i) → IsDecided ((i : ℕ) × (i < suc n) × P i)
    by (inl p) q = inl (n, omega arith, p)
    by (inr m) (inl q) = inl (q.0, (let l = q.1 in omega arith), q.2)
    by (inr m) (inr q) = inr (λ z. at m q z.0 z.2 (last_or_below z.0 n z.1))

-- at each item of a list
pub all_in : {X : Type 0} (P : X → Type 0) (xs : List X) → ((x : X) → IsDecided (P x)) → IsDecided ((x : X) → Member x xs → P x)
all_in P [] d = inl (λ x m. absurd m)
all_in {X} P (x ∷ xs) d = by (d x) (all_in P xs d)
  where
    at : P x → ((y : X) → Member y xs → P y) → (y : X) → Member y (x ∷ xs) → P y
    at p q y (inl e) = subst P e p
    at p q y (inr m) = q y m

    by : IsDecided (P x) → IsDecided ((y : X) → Member y xs → P y) → IsDecided ((y : X) → Member y (x ∷ xs) → P y)
    by (inl p) (inl q) = inl (at p q)
    by (inl p) (inr n) = inr (λ f. n (λ y m. f y (inr m)))
    by (inr n) q = inr (λ f. n (f x (inl refl)))

-- whether an item stands in a list, where it is decided whether two are one
pub is_in : {X : Type 0} (y : X) (xs : List X) → ((x : X) → IsDecided (x ≡ y)) → IsDecided (Member y xs)
is_in y [] d = inr (λ m. m)
is_in y (x ∷ xs) d = either (d x) (is_in y xs d)

-- an item with the property, before which none stands that has it
pub record IsFirstOf {X : Type 0} (before : X → X → Bool) (P : X → Type 0) (xs : List X) (x : X) : Type 0 where
  pub has : P x
  pub least : (y : X) → Member y xs → P y → before y x ≡ false

-- The first item of a list that has a decided property is there, or no item has it; the order of the items is a
-- strict one.
pub first_of : {X : Type 0} (before : X → X → Bool) (P : X → Type 0) → ((x : X) → before x x ≡ false) → ((x y z : X) → before x y ≡ true → before y z ≡ true → before x z ≡ true) → ((x : X) → IsDecided (P x)) → (xs : List X) → ((x : X) × IsFirstOf before P xs x) ⊎ ((y : X) → Member y xs → P y → ⊥)
first_of before P itself trans d [] = inr (λ y m p. m)
first_of {X} before P itself trans d (x ∷ xs) = by (d x) (first_of before P itself trans d xs)
  where
    alone : ((y : X) → Member y xs → P y → ⊥) → (y : X) → Member y (x ∷ xs) → P y → before y x ≡ false
    alone none y (inl e) p = subst (λ (z : X). before z x ≡ false) e (itself x)
    alone none y (inr m) p = absurd (none y m p)

    passed : (P x → ⊥) → (z : X) → IsFirstOf before P xs z → (y : X) → Member y (x ∷ xs) → P y → before y z ≡ false
    passed n z f y (inl e) p = absurd (n (subst P (sym e) p))
    passed n z f y (inr m) p = f.least y m p

    none_of : (P x → ⊥) → ((y : X) → Member y xs → P y → ⊥) → (y : X) → Member y (x ∷ xs) → P y → ⊥
    none_of n none y (inl e) p = n (subst P (sym e) p)
    none_of n none y (inr m) p = none y m p

    lower : (z : X) → IsFirstOf before P xs z → before x z ≡ true → (y : X) → Member y (x ∷ xs) → P y → before y x ≡ false
    lower z f e y (inl s) p = subst (λ (w : X). before w x ≡ false) s (itself x)
    lower z f e y (inr m) p = false_from_ne_true (before y x) (λ t. false≢true (sym (f.least y m p) ∙ trans y x z t e))

    stays : (z : X) → IsFirstOf before P xs z → before x z ≡ false → (y : X) → Member y (x ∷ xs) → P y → before y z ≡ false
    stays z f e y (inl s) p = subst (λ (w : X). before w z ≡ false) s e
    stays z f e y (inr m) p = f.least y m p

    pick : P x → (z : X) → IsFirstOf before P xs z → (b : Bool) → before x z ≡ b → (w : X) × IsFirstOf before P (x ∷ xs) w
    pick p z f true e = (x, record { has = p; least = lower z f e })
    pick p z f false e = (z, record { has = f.has; least = stays z f e })

    by : IsDecided (P x) → ((z : X) × IsFirstOf before P xs z) ⊎ ((y : X) → Member y xs → P y → ⊥) → ((z : X) × IsFirstOf before P (x ∷ xs) z) ⊎ ((y : X) → Member y (x ∷ xs) → P y → ⊥)
    by (inl p) (inl f) = inl (pick p f.0 f.1 (before x f.0) refl)
    by (inl p) (inr none) = inl (x, record { has = p; least = alone none })
    by (inr n) (inl f) = inl (f.0, record { has = f.1.has; least = passed n f.0 f.1 })
    by (inr n) (inr none) = inr (none_of n none)
