-- Records that only come, or only go, from one moment to another.
use Rattle.std.proofs.Common.{◌≡◌, ℕ, zero, suc, ◌+◌, ◌-◌, ◌<◌, ◌≤◌, subst, arith}
use Rattle.dn_kind.specs.Tables.{Extends, Held}

pub extends_same : (h : Held) → Extends h h
extends_same h n q r e = e

pub extends_then : (a b c : Held) → Extends a b → Extends b c → Extends a c
extends_then a b c f g n q r e = g n q r (f n q r e)

-- what rises goes on rising
pub rising : (held : ℕ → Held) (i k : ℕ) → ((d : ℕ) → i ≤ d → d < i + k → Extends (held d) (held (suc d))) → Extends (held i) (held (i + k))
rising held i zero f = let e : i ≡ i + 0 = omega arith in subst (λ n. Extends (held i) (held n)) e (extends_same (held i))
rising held i (suc k) f =
    let e : suc (i + k) ≡ i + suc k = omega arith in
    subst (λ n. Extends (held i) (held n)) e
    (extends_then (held i) (held (i + k)) (held (suc (i + k))) (rising held i k (λ d l m. f d l (omega arith))) (f (i + k) (omega arith) (omega arith)))

pub falling : (held : ℕ → Held) (i k : ℕ) → ((d : ℕ) → i ≤ d → d < i + k → Extends (held (suc d)) (held d)) → Extends (held (i + k)) (held i)
falling held i zero f = let e : i ≡ i + 0 = omega arith in subst (λ n. Extends (held n) (held i)) e (extends_same (held i))
falling held i (suc k) f =
    let e : suc (i + k) ≡ i + suc k = omega arith in
    subst (λ n. Extends (held n) (held i)) e
    (extends_then (held (suc (i + k))) (held (i + k)) (held i) (f (i + k) (omega arith) (omega arith)) (falling held i k (λ d l m. f d l (omega arith))))

pub rises_to : (held : ℕ → Held) (i j : ℕ) → i ≤ j → ((d : ℕ) → i ≤ d → d < j → Extends (held d) (held (suc d))) → Extends (held i) (held j)
rises_to held i j l f = go (j - i) (omega arith) f
  where
    go : (k : ℕ) → i + k ≡ j → ((d : ℕ) → i ≤ d → d < j → Extends (held d) (held (suc d))) → Extends (held i) (held j)
    go k e f = subst (λ n. Extends (held i) (held n)) e (rising held i k (λ d l m. f d l (omega arith)))

pub falls_to : (held : ℕ → Held) (i j : ℕ) → i ≤ j → ((d : ℕ) → i ≤ d → d < j → Extends (held (suc d)) (held d)) → Extends (held j) (held i)
falls_to held i j l f = go (j - i) (omega arith) f
  where
    go : (k : ℕ) → i + k ≡ j → ((d : ℕ) → i ≤ d → d < j → Extends (held (suc d)) (held d)) → Extends (held j) (held i)
    go k e f = subst (λ n. Extends (held n) (held i)) e (falling held i k (λ d l m. f d l (omega arith)))
