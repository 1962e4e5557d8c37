-- What holds of each two items of a list, the earlier one first.
use Rattle.std.proofs.Common.{◌≡◌, ℕ, zero, suc, ◌<◌, ◌≤◌, inl, inr, Bool, true, false, if◌then◌else◌, List, [], ◌∷◌, ◌++◌, map, filter, slice_get, get_or, Some, refl, subst, arith}
use Rattle.std.proofs.lemmas.Option.{slice_get-get_or}
use Rattle.std.specs.List.{flat_map}
use Rattle.std.specs.List.Sorted.{IsNonDecreasingBy}
use Rattle.dn_net.specs.Chain.{Member}
use Rattle.dn_net.specs.Walks.{put_in, in_order}
use Rattle.dn_base.proofs.Members.{member_cases, map_member, member_at}
use Rattle.dn_net.proofs.Members.{member_filter, member_flat_map, member_put, member_order, some_same}

abbrev pub Pairwise : {X : Type 0} → (X → X → Type 0) → List X → Type 0
Pairwise R [] = Unit {0}
Pairwise {X} R (x ∷ xs) = ((y : X) → Member y xs → R x y) × Pairwise R xs

pub pair_at : {X : Type 0} (R : X → X → Type 0) (xs : List X) (i j : ℕ) (x y : X) → Pairwise R xs → slice_get xs i ≡ Some x → slice_get xs j ≡ Some y → i < j → R x y
pair_at R [] i j x y p at bt l = cc
pair_at R (z ∷ xs) zero zero x y p at bt l = absurd (omega arith)
pair_at R (z ∷ xs) zero (suc j) x y p at bt l = subst (λ w. R w y) (some_same z x at) (p.0 y (member_at xs j y bt))
pair_at R (z ∷ xs) (suc i) zero x y p at bt l = absurd (omega arith)
pair_at R (z ∷ xs) (suc i) (suc j) x y p at bt l = pair_at R xs i j x y p.1 at bt (omega arith)

pub pairs_more : {X : Type 0} (R Q : X → X → Type 0) (xs : List X) → ((x y : X) → Member x xs → Member y xs → R x y → Q x y) → Pairwise R xs → Pairwise Q xs
pairs_more R Q [] f p = tt
pairs_more R Q (x ∷ xs) f p = ((λ y m. f x y (inl refl) (inr m) (p.0 y m)), pairs_more R Q xs (λ y z m n. f y z (inr m) (inr n)) p.1)

pub pairs_append : {X : Type 0} (R : X → X → Type 0) (xs ys : List X) → Pairwise R xs → Pairwise R ys → ((x y : X) → Member x xs → Member y ys → R x y) → Pairwise R (xs ++ ys)
pairs_append R [] ys p q f = q
pairs_append R (x ∷ xs) ys p q f = ((λ y m. elim (member_cases xs ys y m) [ inl n ↦ p.0 y n | inr n ↦ f x y (inl refl) n ]), pairs_append R xs ys p.1 q (λ y z m n. f y z (inr m) n))

pub pairs_map : {X Y : Type 0} (R : Y → Y → Type 0) (f : X → Y) (xs : List X) → Pairwise (λ x y. R (f x) (f y)) xs → Pairwise R (map f xs)
pairs_map R f [] p = tt
pairs_map R f (x ∷ xs) p = ((λ y m. let r = map_member f xs y m in subst (λ z. R (f x) z) r.2 (p.0 r.0 r.1)), pairs_map R f xs p.1)

pub pairs_filter : {X : Type 0} (R : X → X → Type 0) (test : X → Bool) (xs : List X) → Pairwise R xs → Pairwise R (filter test xs)
pairs_filter R test [] p = tt
pairs_filter R test (x ∷ xs) p = by (test x) (pairs_filter R test xs p.1)
  where
    by : (b : Bool) → Pairwise R (filter test xs) → Pairwise R (if b then x ∷ filter test xs else filter test xs)
    by true q = ((λ y m. p.0 y (member_filter test xs y m).0), q)
    by false q = q

pub pairs_flat_map : {X Y : Type 0} (Q : X → X → Type 0) (R : Y → Y → Type 0) (f : X → List Y) (xs : List X) → Pairwise Q xs → ((x : X) → Member x xs → Pairwise R (f x)) → ((x y : X) (u v : Y) → Member x xs → Member y xs → Q x y → Member u (f x) → Member v (f y) → R u v) → Pairwise R (flat_map f xs)
pairs_flat_map Q R f [] p each across = tt
pairs_flat_map Q R f (x ∷ xs) p each across = pairs_append R (f x) (flat_map f xs) (each x (inl refl)) (pairs_flat_map Q R f xs p.1 (λ y m. each y (inr m)) (λ y z u v m n. across y z u v (inr m) (inr n))) (λ u v m n. let r = member_flat_map f xs v n in across x r.0 u v (inl refl) (inr r.1) (p.0 r.0 r.1) m r.2)

-- an item put into order keeps what holds of two items, if it holds of each two that change places
pairs_put : {X : Type 0} (R : X → X → Type 0) (before : X → X → Bool) (x : X) (ys : List X) → ((u v : X) → R u v → before v u ≡ true → R v u) → Pairwise R (x ∷ ys) → Pairwise R (put_in before x ys)
pairs_put R before x [] change p = p
pairs_put R before x (y ∷ ys) change p = by (pairs_put R before x ys change ((λ z m. p.0 z (inr m)), p.1.1)) (before y x) refl
  where
    by : Pairwise R (put_in before x ys) → (b : Bool) → before y x ≡ b → Pairwise R (if b then y ∷ put_in before x ys else x ∷ (y ∷ ys))
    by q false e = p
    by q true e = ((λ z m. elim (member_put before x ys z m) [ inl s ↦ subst (λ w. R y w) s (change x y (p.0 y (inl refl)) e) | inr n ↦ p.1.0 z n ]), q)

pub pairs_order : {X : Type 0} (R : X → X → Type 0) (before : X → X → Bool) (xs : List X) → ((u v : X) → R u v → before v u ≡ true → R v u) → Pairwise R xs → Pairwise R (in_order before xs)
pairs_order R before [] change p = tt
pairs_order R before (x ∷ xs) change p = pairs_put R before x (in_order before xs) change ((λ y m. p.0 y ((member_order before xs y).0 m)), pairs_order R before xs change p.1)

-- items in order: none comes before an earlier one
abbrev pub NotBefore : {X : Type 0} → (X → X → Bool) → X → X → Type 0
NotBefore before x y = before y x ≡ false

module _ {X : Type 0} (before : X → X → Bool) (turned : (x y : X) → before x y ≡ true → before y x ≡ false) (still : (x y z : X) → NotBefore before x y → NotBefore before y z → NotBefore before x z) where
  put_sorted : (x : X) (ys : List X) → Pairwise (NotBefore before) ys → Pairwise (NotBefore before) (put_in before x ys)
  put_sorted x [] p = ((λ y m. absurd m), tt)
  put_sorted x (y ∷ ys) p = by (put_sorted x ys p.1) (before y x) refl
    where
      by : Pairwise (NotBefore before) (put_in before x ys) → (b : Bool) → before y x ≡ b → Pairwise (NotBefore before) (if b then y ∷ put_in before x ys else x ∷ (y ∷ ys))
      by q true e = ((λ z m. elim (member_put before x ys z m) [ inl s ↦ subst (λ w. before w y ≡ false) s (turned y x e) | inr n ↦ p.0 z n ]), q)
      by q false e = ((λ z m. elim m [ inl s ↦ subst (λ w. before w x ≡ false) s e | inr n ↦ still x y z e (p.0 z n) ]), p)

  pub order_sorted : (xs : List X) → Pairwise (NotBefore before) (in_order before xs)
  order_sorted [] = tt
  order_sorted (x ∷ xs) = put_sorted x (in_order before xs) (order_sorted xs)

pub pairs_both : {X : Type 0} (R Q : X → X → Type 0) (xs : List X) → Pairwise R xs → Pairwise Q xs → Pairwise (λ x y. R x y × Q x y) xs
pairs_both R Q [] p q = tt
pairs_both R Q (x ∷ xs) p q = ((λ y m. (p.0 y m, q.0 y m)), pairs_both R Q xs p.1 q.1)

-- a number that never falls from an item to a later one
pub pairs_rise : {X : Type 0} (n : X → ℕ) (xs : List X) → Pairwise (λ x y. n x ≤ n y) xs → IsNonDecreasingBy n xs
pairs_rise n [] p i j d l h = absurd (omega arith)
pairs_rise n (x ∷ xs) p zero zero d l h = omega arith
pairs_rise n (x ∷ xs) p zero (suc j) d l h = p.0 (get_or xs j d) (member_at xs j (get_or xs j d) (slice_get-get_or xs j d (omega arith)))
pairs_rise n (x ∷ xs) p (suc i) zero d l h = absurd (omega arith)
pairs_rise n (x ∷ xs) p (suc i) (suc j) d l h = pairs_rise n xs p.1 i j d (omega arith) (omega arith)
