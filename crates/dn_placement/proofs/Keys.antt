-- The order of lists of numbers.
use Rattle.std.proofs.Common.{◌≡◌, ℕ, ◌<◌, ◌⊎◌, inl, inr, Bool, true, false, ◌&&◌, ◌||◌, nat_lt, nat_eq, List, [], ◌∷◌, ◌++◌, length, refl, sym, ap, ◌∙◌, subst, arith, eq-eqb, eqb-true, ltb-true, lt-ltb, append_assoc}
use Rattle.std.proofs.lemmas.Bool.{le-ltb, ne_eqb, cases_order, false≢true, or_cases, and_parts, and_from, or_left, or_right}
use Rattle.dn_placement.specs.Keys.{comes_before}

same_head : (x : ℕ) (xs ys : List ℕ) → comes_before (x ∷ xs) (x ∷ ys) ≡ comes_before xs ys
same_head x xs ys = go (nat_lt x x) (nat_eq x x) (comes_before xs ys) (le-ltb x x (omega arith)) (eq-eqb x x refl)
  where
    go : (a b c : Bool) → a ≡ false → b ≡ true → (a || (b && c)) ≡ c
    go false true c p q = refl
    go false false c p q = absurd (false≢true q)
    go true b c p q = absurd (false≢true (sym p))

-- what follows one beginning decides
pub same_front : (front xs ys : List ℕ) → comes_before (front ++ xs) (front ++ ys) ≡ comes_before xs ys
same_front [] xs ys = refl
same_front (x ∷ front) xs ys = same_head x (front ++ xs) (front ++ ys) ∙ same_front front xs ys

pub not_before : (x y : ℕ) (xs ys : List ℕ) → y < x → comes_before (x ∷ xs) (y ∷ ys) ≡ false
not_before x y xs ys l = go (nat_lt x y) (nat_eq x y) (comes_before xs ys) (le-ltb x y (omega arith)) (ne_eqb x y (λ e. omega arith))
  where
    go : (a b c : Bool) → a ≡ false → b ≡ false → (a || (b && c)) ≡ false
    go false false c p q = refl
    go false true c p q = absurd (false≢true (sym q))
    go true b c p q = absurd (false≢true (sym p))

-- what follows one beginning is one
pub cancel : (front a b : List ℕ) → front ++ a ≡ front ++ b → a ≡ b
cancel [] a b e = e
cancel (x ∷ front) a b e = cancel front a b (tails e)
  where
    tails : (x ∷ (front ++ a)) ≡ (x ∷ (front ++ b)) → front ++ a ≡ front ++ b
    tails p = cc

-- a number appended
pub one_more : (front : List ℕ) (a : ℕ) (rest : List ℕ) → (front ++ a ∷ []) ++ rest ≡ front ++ (a ∷ rest)
one_more front a rest = append_assoc front (a ∷ []) rest

pub append_none : (xs : List ℕ) → xs ++ [] ≡ xs
append_none [] = refl
append_none (x ∷ xs) = ap (λ l. x ∷ l) (append_none xs)

-- no list comes before itself
pub not_itself : (xs : List ℕ) → comes_before xs xs ≡ false
not_itself xs = subst (λ l. comes_before l l ≡ false) (append_none xs) (same_front xs [] [])

test_cases : (x y : ℕ) (xs ys : List ℕ) → comes_before (x ∷ xs) (y ∷ ys) ≡ true → (x < y) ⊎ ((x ≡ y) × (comes_before xs ys ≡ true))
test_cases x y xs ys e = go (or_cases (nat_lt x y) (nat_eq x y && comes_before xs ys) e)
  where
    go : (nat_lt x y ≡ true) ⊎ ((nat_eq x y && comes_before xs ys) ≡ true) → (x < y) ⊎ ((x ≡ y) × (comes_before xs ys ≡ true))
    go (inl l) = inl (ltb-true x y l)
    go (inr b) = let w = and_parts (nat_eq x y) (comes_before xs ys) b in inr (eqb-true x y w.0, w.1)

pub lower : (x y : ℕ) (xs ys : List ℕ) → x < y → comes_before (x ∷ xs) (y ∷ ys) ≡ true
lower x y xs ys l = or_left (nat_lt x y) (nat_eq x y && comes_before xs ys) (lt-ltb x y l)

alike : (x y : ℕ) (xs ys : List ℕ) → x ≡ y → comes_before xs ys ≡ true → comes_before (x ∷ xs) (y ∷ ys) ≡ true
alike x y xs ys e b = or_right (nat_lt x y) (nat_eq x y && comes_before xs ys) (and_from (nat_eq x y) (comes_before xs ys) (eq-eqb x y e) b)

pub before_both : (xs ys zs : List ℕ) → comes_before xs ys ≡ true → comes_before ys zs ≡ true → comes_before xs zs ≡ true
before_both [] ys zs a b = absurd (false≢true a)
before_both (x ∷ xs) [] zs a b = absurd (false≢true a)
before_both (x ∷ xs) (y ∷ ys) [] a b = absurd (false≢true b)
before_both (x ∷ xs) (y ∷ ys) (z ∷ zs) a b = go (λ l m. before_both xs ys zs l m) (test_cases x y xs ys a) (test_cases y z ys zs b)
  where
    go : (comes_before xs ys ≡ true → comes_before ys zs ≡ true → comes_before xs zs ≡ true) → (x < y) ⊎ ((x ≡ y) × (comes_before xs ys ≡ true)) → (y < z) ⊎ ((y ≡ z) × (comes_before ys zs ≡ true)) → comes_before (x ∷ xs) (z ∷ zs) ≡ true
    go f (inl l) (inl m) = lower x z xs zs (omega arith)
    go f (inl l) (inr m) = let e : y ≡ z = m.0 in lower x z xs zs (omega arith)
    go f (inr l) (inl m) = let e : x ≡ y = l.0 in lower x z xs zs (omega arith)
    go f (inr l) (inr m) = alike x z xs zs (l.0 ∙ m.0) (f l.1 m.1)

-- two lists of one length of which neither comes before the other are one
pub neither : (xs ys : List ℕ) → length xs ≡ length ys → comes_before xs ys ≡ false → comes_before ys xs ≡ false → xs ≡ ys
neither [] [] l a b = refl
neither [] (y ∷ ys) l a b = absurd (omega arith)
neither (x ∷ xs) [] l a b = absurd (omega arith)
neither (x ∷ xs) (y ∷ ys) l a b = go (λ f g. neither xs ys (omega arith) f g) (cases_order x y)
  where
    consed : (u v : ℕ) (us vs : List ℕ) → u ≡ v → us ≡ vs → u ∷ us ≡ v ∷ vs
    consed u v us vs p q = cc

    tails : (u v : ℕ) (us vs : List ℕ) → u ≡ v → comes_before (u ∷ us) (v ∷ vs) ≡ false → (t : Bool) → comes_before us vs ≡ t → comes_before us vs ≡ false
    tails u v us vs e f true g = absurd (false≢true (sym f ∙ alike u v us vs e g))
    tails u v us vs e f false g = g

    go : (comes_before xs ys ≡ false → comes_before ys xs ≡ false → xs ≡ ys) → (x ≡ y) ⊎ ((x < y) ⊎ (y < x)) → x ∷ xs ≡ y ∷ ys
    go n (inl e) = consed x y xs ys e (n (tails x y xs ys e a (comes_before xs ys) refl) (tails y x ys xs (sym e) b (comes_before ys xs) refl))
    go n (inr (inl m)) = absurd (false≢true (sym a ∙ lower x y xs ys m))
    go n (inr (inr m)) = absurd (false≢true (sym b ∙ lower y x ys xs m))
