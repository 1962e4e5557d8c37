-- A chain with no end has a chain of each length, and a chain has a front of each length up to its own.
use Rattle.std.proofs.Common.{◌≡◌, ℕ, zero, suc, ◌+◌, ◌≤◌, refl, sym, ap, subst, arith}
use Rattle.dn_net.specs.Chain.{IsChain}

pub chain_from_endless : {X : Type 0} (S : X → X → Type 0) (f : ℕ → X) → ((i : ℕ) → S (f i) (f (suc i))) → (k i : ℕ) → IsChain S k (f i) (f (i + k))
chain_from_endless S f go zero i = let e : i + 0 ≡ i = omega arith in ap f (sym e)
chain_from_endless S f go (suc k) i =
    let e : suc i + k ≡ i + suc k = omega arith in
    (f (suc i), go i, subst (λ n. IsChain S k (f (suc i)) (f n)) e (chain_from_endless S f go k (suc i)))

pub chain_front : {X : Type 0} (S : X → X → Type 0) (n k : ℕ) (x y : X) → n ≤ k → IsChain S k x y → (z : X) × IsChain S n x z
chain_front S zero k x y l c = (x, refl)
chain_front S (suc n) zero x y l c = absurd (omega arith)
chain_front S (suc n) (suc k) x y l c = let r = chain_front S n k c.0 y (omega arith) c.2 in (r.0, (c.0, c.1, r.1))

-- chains one behind the other
pub chain_join : {X : Type 0} (S : X → X → Type 0) (j k : ℕ) (x y z : X) → IsChain S j x y → IsChain S k y z → IsChain S (j + k) x z
chain_join S zero k x y z c d =
    let e : k ≡ 0 + k = omega arith in
    subst (λ n. IsChain S n x z) e (subst (λ w. IsChain S k w z) (sym c) d)
chain_join S (suc j) k x y z c d =
    let e : suc (j + k) ≡ suc j + k = omega arith in
    subst (λ n. IsChain S n x z) e (c.0, c.1, chain_join S j k c.0 y z c.2 d)

-- chains of a relation are chains of a wider one
pub chain_more : {X : Type 0} (S Q : X → X → Type 0) → ((x y : X) → S x y → Q x y) → (k : ℕ) (x y : X) → IsChain S k x y → IsChain Q k x y
chain_more S Q f zero x y c = c
chain_more S Q f (suc k) x y c = (c.0, f x c.0 c.1, chain_more S Q f k c.0 y c.2)

-- a cycle goes round as often as is asked for
pub chain_round : {X : Type 0} (S : X → X → Type 0) (c : ℕ) (x : X) → 1 ≤ c → IsChain S c x x → (n : ℕ) → (m : ℕ) × (n ≤ m) × IsChain S m x x
chain_round S c x l r zero = (0, (omega arith), refl)
chain_round S c x l r (suc n) =
    let p = chain_round S c x l r n in
    let q : n ≤ p.0 = p.1 in
    (c + p.0, (omega arith), chain_join S c p.0 x x x r p.2)
