-- Chains cut after so many steps, and names that are reached in fewer steps than a sum.
use Rattle.std.proofs.Common.{◌≡◌, ℕ, zero, suc, ◌+◌, ◌-◌, ◌<◌, ◌≤◌, ◌⊎◌, ◌↔◌, inl, inr, refl, subst, arith}
use Rattle.dn_net.specs.Chain.{IsChain}
use Rattle.dn_net.proofs.Chains.{chain_join}
use Rattle.dn_flat.specs.Stages.{ReachesBefore}

pub parted : {X : Type 0} (S : X → X → Type 0) (j k : ℕ) (x z : X) → IsChain S (j + k) x z → (y : X) × IsChain S j x y × IsChain S k y z
parted S zero k x z c =
    let e : 0 + k ≡ k = omega arith in
    (x, refl, subst (λ n. IsChain S n x z) e c)
parted S (suc j) k x z c =
    let e : suc j + k ≡ suc (j + k) = omega arith in
    split (subst (λ n. IsChain S n x z) e c) (parted S j k)
  where
    split : IsChain S (suc (j + k)) x z → ((w v : _) → IsChain S (j + k) w v → (y : _) × IsChain S j w y × IsChain S k y v) → (y : _) × IsChain S (suc j) x y × IsChain S k y z
    split d later = let r = later d.0 z d.2 in (r.0, (d.0, d.1, r.1), r.2)

-- in fewer than j + k steps: in fewer than j, or by j steps and then fewer than k
pub before_sum : {X : Type 0} (S : X → X → Type 0) (j k : ℕ) (x z : X) → (ReachesBefore S j x z ⊎ ((y : X) × IsChain S j x y × ReachesBefore S k y z)) ↔ ReachesBefore S (j + k) x z
before_sum {X} S j k x z = (join, split)
  where
    join : ReachesBefore S j x z ⊎ ((y : X) × IsChain S j x y × ReachesBefore S k y z) → ReachesBefore S (j + k) x z
    join (inl b) = let l : b.0 < j = b.1 in (b.0, omega arith, b.2)
    join (inr b) = let l : b.2.0 < k = b.2.1 in (j + b.2.0, omega arith, chain_join S j b.2.0 x b.0 z b.1 b.2.2)

    split : ReachesBefore S (j + k) x z → ReachesBefore S j x z ⊎ ((y : X) × IsChain S j x y × ReachesBefore S k y z)
    split b = go (cases b.0)
      where
        cases : (i : ℕ) → (i < j) ⊎ (j ≤ i)
        cases i = grind arith

        go : (b.0 < j) ⊎ (j ≤ b.0) → ReachesBefore S j x z ⊎ ((y : X) × IsChain S j x y × ReachesBefore S k y z)
        go (inl l) = inl (b.0, l, b.2)
        go (inr l) =
            let m : b.0 < j + k = b.1 in
            let e : b.0 ≡ j + (b.0 - j) = omega arith in
            let c = parted S j (b.0 - j) x z (subst (λ n. IsChain S n x z) e b.2) in
            inr (c.0, c.1, (b.0 - j, omega arith, c.2))
