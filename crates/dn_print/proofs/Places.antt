-- What holds of each item of a list: by its place, and one after another; lists of values of which no two are equal; sums.
use Rattle.std.proofs.Common.{◌≡◌, ◌≢◌, ◌∙◌, ap, sym, refl, ℕ, zero, suc, ◌+◌, ◌<◌, ◌≤◌, Bool, true, false, ◌||◌, List, [], ◌∷◌, ◌++◌, map, length, length-append, get_or, fold, IsTrue, arith, true≢false, bytes_eq}
use Rattle.std.specs.List.{All, AllPairs, list_all, list_any}
use Rattle.std.proofs.lemmas.List.{get_or-map}
use Rattle.std.proofs.lemmas.List.Quantifiers.{all_pairs_push}
use Rattle.std.proofs.lemmas.List.Sums.{fold-append}
use Rattle.std.proofs.lemmas.Slice.Eq.{bytes_eq-Decides}
use Rattle.std.proofs.Math.Seq.{get_or-append_seam}
use Rattle.dn_base.proofs.Lists.{Each}

-- a test that each item passes is passed by all
pub all_true : {X : Type 0} (xs : List X) → IsTrue (list_all (λ x. true) xs)
all_true [] = refl
all_true (x ∷ xs) = all_true xs

pub each_of_all : {X : Type 0} (P : X → Type 0) (xs : List X) → All P xs → Each P xs
each_of_all P [] h = tt
each_of_all P (x ∷ xs) h = (h 0 x (omega arith), each_of_all P xs (λ k d l. h (suc k) d (omega arith)))

pub all_of_each : {X : Type 0} (P : X → Type 0) (xs : List X) → Each P xs → All P xs
all_of_each P [] h k d l = absurd (omega arith)
all_of_each P (x ∷ xs) h zero d l = h.0
all_of_each P (x ∷ xs) h (suc k) d l = all_of_each P xs h.1 k d (omega arith)

pub each_map : {X Y : Type 0} (P : X → Type 0) (Q : Y → Type 0) (f : X → Y) → ((x : X) → P x → Q (f x)) → (xs : List X) → Each P xs → Each Q (map f xs)
each_map P Q f gives [] h = tt
each_map P Q f gives (x ∷ xs) h = (gives x h.0, each_map P Q f gives xs h.1)

-- values of which no two are equal
abbrev pub Distinct : List (List ℕ) → Type 0
Distinct ts = AllPairs (λ (t u : List ℕ). t ≢ u) ts

pub distinct_map : {X : Type 0} (f : X → List ℕ) (xs : List X) → AllPairs (λ (x y : X). f x ≢ f y) xs → Distinct (map f xs)
distinct_map f [] all i j d a b = absurd (omega arith)
distinct_map {X} f (x ∷ xs) all i j d a b = go (length-same xs)
  where
    length-same : (ys : List X) → length (map f ys) ≡ length ys
    length-same [] = refl
    length-same (y ∷ ys) = ap suc (length-same ys)

    go : length (map f xs) ≡ length xs → get_or (map f (x ∷ xs)) i d ≢ get_or (map f (x ∷ xs)) j d
    go n e =
        let p = get_or-map f (x ∷ xs) i x d (omega (arith, a, b, n)) in
        let q = get_or-map f (x ∷ xs) j x d (omega (arith, b, n)) in
        all i j x a (omega (arith, b, n)) (sym p ∙ e ∙ q)

pub pairs_of_map : {X : Type 0} (f : X → List ℕ) (xs : List X) → Distinct (map f xs) → AllPairs (λ (x y : X). f x ≢ f y) xs
pairs_of_map {X} f xs all i j d a b e = go (length-same xs)
  where
    length-same : (ys : List X) → length (map f ys) ≡ length ys
    length-same [] = refl
    length-same (y ∷ ys) = ap suc (length-same ys)

    go : length (map f xs) ≡ length xs → ⊥
    go n =
        let p = get_or-map f xs i d (f d) (omega (arith, a, b)) in
        let q = get_or-map f xs j d (f d) b in
        all i j (f d) a (omega (arith, b, n)) (p ∙ e ∙ sym q)

pub unlike : (t u : List ℕ) → t ≢ u → bytes_eq t u ≡ false
unlike t u h = go (bytes_eq t u) refl
  where
    go : (b : Bool) → bytes_eq t u ≡ b → b ≡ false
    go false e = refl
    go true e = absurd (h ((bytes_eq-Decides t u).0 e))

-- a value is not among those before it
pub not_before : (ts us : List (List ℕ)) (t : List ℕ) → Distinct (ts ++ t ∷ us) → list_any (bytes_eq t) ts ≡ false
not_before [] us t all = refl
not_before (s ∷ ts) us t all =
    let n = length-append ts (t ∷ us) in
    let k : get_or (ts ++ t ∷ us) (length ts) s ≡ t = get_or-append_seam ts t us s in
    let away : bytes_eq t s ≡ false = unlike t s (λ e. all 0 (suc (length ts)) s (omega arith) (omega (arith, n)) (sym e ∙ sym k)) in
    let more = not_before ts us t (λ i j d a b. all (suc i) (suc j) d (omega arith) (omega arith)) in
    ap (λ b. b || list_any (bytes_eq t) ts) away ∙ more

-- a value that is not among others is none of them
any_false : (ts : List (List ℕ)) (t : List ℕ) (k : ℕ) (d : List ℕ) → list_any (bytes_eq t) ts ≡ false → k < length ts → get_or ts k d ≢ t
any_false [] t k d h l = absurd (omega arith)
any_false (s ∷ ts) t k d h l = go (bytes_eq t s) refl h (λ f j m. any_false ts t j d f m) k l
  where
    go : (b : Bool) → bytes_eq t s ≡ b → (b || list_any (bytes_eq t) ts) ≡ false → (list_any (bytes_eq t) ts ≡ false → (j : ℕ) → j < length ts → get_or ts j d ≢ t) → (k : ℕ) → k < length (s ∷ ts) → get_or (s ∷ ts) k d ≢ t
    go true p f more k l = absurd (true≢false f)
    go false p f more zero l = λ e. true≢false (sym ((bytes_eq-Decides t s).1 (sym e)) ∙ p)
    go false p f more (suc k) l = more f k (omega arith)

pub distinct_more : (ts : List (List ℕ)) (t : List ℕ) → Distinct ts → list_any (bytes_eq t) ts ≡ false → Distinct (ts ++ t ∷ [])
distinct_more ts t all h = all_pairs_push (λ (t u : List ℕ). t ≢ u) ts t all (λ k d l. any_false ts t k d h l)

-- a number and what each item adds to it
abbrev pub total : {X : Type 0} → (X → ℕ) → ℕ → List X → ℕ
total f n xs = fold (λ a x. a + f x) n xs

pub total_least : {X : Type 0} (f : X → ℕ) (n : ℕ) (xs : List X) → n ≤ total f n xs
total_least f n [] = omega arith
total_least f n (x ∷ xs) = let m = total_least f (n + f x) xs in omega (arith, m)

pub total_more : {X : Type 0} (f : X → ℕ) (n : ℕ) (xs : List X) (x : X) → total f n (xs ++ x ∷ []) ≡ total f n xs + f x
total_more f n xs x = fold-append (λ a x. a + f x) n xs (x ∷ [])

pub total_map : {X Y : Type 0} (f : Y → ℕ) (g : X → Y) (h : X → ℕ) → ((x : X) → f (g x) ≡ h x) → (n : ℕ) (xs : List X) → total f n (map g xs) ≡ total h n xs
total_map f g h same n [] = refl
total_map f g h same n (x ∷ xs) = ap (λ (m : ℕ). total f (n + m) (map g xs)) (same x) ∙ total_map f g h same (n + h x) xs
