-- One level of the search: placements whose keys begin so, by the number with which they go on.
use Rattle.std.proofs.Common.{◌≡◌, ℕ, suc, ◌+◌, ◌<◌, ◌≤◌, ◌⊎◌, inl, inr, false, List, [], ◌∷◌, ◌++◌, Option, Some, None, sym, ap, ◌∙◌, subst, arith, append_assoc}
use Rattle.std.proofs.lemmas.Bool.{cases_lt, cases_order}
use Rattle.dn_tables.specs.Placement.{Place}
use Rattle.dn_place.specs.Sought.{Sought}
use Rattle.dn_placement.specs.Keys.{comes_before, Begins}
use Rattle.dn_placement.specs.Order.{key_of, precedes}
use Rattle.dn_placement.proofs.Keys.{same_front, not_before}
use Rattle.dn_place.specs.Candidates.{IsUnder, NoneUnder, IsFirstOrNone, IsFirstUnder}

-- there is none whose key goes on with a number below this one
pub record NoneBelow (s : Sought) (front : List ℕ) (bound : ℕ) : Type 0 where
  pub none : (q : Place) (j : ℕ) → j < bound → IsUnder s (front ++ j ∷ []) q → ⊥

pub begun : (s : Sought) (front : List ℕ) → NoneBelow s front 0
begun s front = record { none = λ q j l u. absurd (omega arith) }

-- numbers from one bound up to another with which no placement goes on
pub leapt : (s : Sought) (front : List ℕ) (i k : ℕ) → NoneBelow s front i → ((q : Place) (j : ℕ) → i ≤ j → j < k → IsUnder s (front ++ j ∷ []) q → ⊥) → NoneBelow s front k
leapt s front i k b n = record { none = λ q j l u. go q j l u (cases_lt j i) }
  where
    go : (q : Place) (j : ℕ) → j < k → IsUnder s (front ++ j ∷ []) q → (j < i) ⊎ (i ≤ j) → ⊥
    go q j l u (inl m) = b.none q j m u
    go q j l u (inr m) = n q j m l u

pub next_none : (s : Sought) (front : List ℕ) (i : ℕ) → NoneBelow s front i → NoneUnder s (front ++ i ∷ []) → NoneBelow s front (suc i)
next_none s front i b n = leapt s front i (suc i) b (λ q j l m u. n.none q (subst (λ k. IsUnder s (front ++ k ∷ []) q) (omega arith) u))

pub next_one : (s : Sought) (front : List ℕ) (i : ℕ) → NoneBelow s front i → NoneUnder s (front ++ i ∷ []) → NoneBelow s front (i + 1)
next_one s front i b n = leapt s front i (i + 1) b (λ q j l m u. n.none q (subst (λ k. IsUnder s (front ++ k ∷ []) q) (omega arith) u))

-- the first that goes on with a number is the first of all
pub found_first : (s : Sought) (front : List ℕ) (i : ℕ) (p : Place) → NoneBelow s front i → IsFirstUnder s (front ++ i ∷ []) p → IsFirstUnder s front p
found_first s front i p b f = record {
  is = record { is = f.is.is; begins = (i ∷ f.is.begins.0, f.is.begins.1 ∙ append_assoc front (i ∷ []) f.is.begins.0) };
  least = λ q u. go q u u.begins.0 u.begins.1;
}
  where
    mine : key_of s.net p ≡ front ++ (i ∷ f.is.begins.0)
    mine = f.is.begins.1 ∙ append_assoc front (i ∷ []) f.is.begins.0

    same : (q : Place) (rest : List ℕ) → key_of s.net q ≡ front ++ rest → precedes s.net q p ≡ comes_before rest (i ∷ f.is.begins.0)
    same q rest e = ap (λ k. comes_before k (key_of s.net p)) e ∙ ap (comes_before (front ++ rest)) mine ∙ same_front front rest (i ∷ f.is.begins.0)

    goes_on : (q : Place) (j : ℕ) (rest : List ℕ) → IsUnder s front q → key_of s.net q ≡ front ++ (j ∷ rest) → IsUnder s (front ++ j ∷ []) q
    goes_on q j rest u e = record { is = u.is; begins = (rest, e ∙ sym (append_assoc front (j ∷ []) rest)) }

    by_order : (q : Place) (j : ℕ) (rest : List ℕ) → IsUnder s front q → key_of s.net q ≡ front ++ (j ∷ rest) → (j ≡ i) ⊎ ((j < i) ⊎ (i < j)) → precedes s.net q p ≡ false
    by_order q j rest u e (inl m) = f.least q (subst (λ k. IsUnder s (front ++ k ∷ []) q) m (goes_on q j rest u e))
    by_order q j rest u e (inr (inl m)) = absurd (b.none q j m (goes_on q j rest u e))
    by_order q j rest u e (inr (inr m)) = same q (j ∷ rest) e ∙ not_before j i rest f.is.begins.0 m

    go : (q : Place) → IsUnder s front q → (rest : List ℕ) → key_of s.net q ≡ front ++ rest → precedes s.net q p ≡ false
    go q u [] e = same q [] e
    go q u (j ∷ rest) e = by_order q j rest u e (cases_order j i)

-- where each placement goes on with a number below the bound, there is none
pub none_left : (s : Sought) (front : List ℕ) (bound : ℕ) → NoneBelow s front bound → ((q : Place) → IsUnder s front q → (j : ℕ) × (j < bound) × Begins (front ++ j ∷ []) (key_of s.net q)) → NoneUnder s front
none_left s front bound b g = record { none = λ q u. let w = g q u in b.none q w.0 w.1 (record { is = u.is; begins = w.2 }) }

-- where no other number goes on, the first that goes on with a number is the first of all
pub only_number : (s : Sought) (front : List ℕ) (x : ℕ) (found : Option Place) → ((q : Place) → IsUnder s front q → (j : ℕ) × Begins (front ++ j ∷ []) (key_of s.net q)) → ((j : ℕ) → (j ≡ x → ⊥) → NoneUnder s (front ++ j ∷ [])) → IsFirstOrNone s (front ++ x ∷ []) found → IsFirstOrNone s front found
only_number s front x found goes others a = by found a
  where
    differ : (j : ℕ) → j ≡ x → j < x → ⊥
    differ j p n = omega arith

    below : NoneBelow s front x
    below = leapt s front 0 x (begun s front) (λ q j m n v. (others j (λ p. differ j p n)).none q v)

    goes_below : (q : Place) → IsUnder s front q → (j : ℕ) × (j < x + 1) × Begins (front ++ j ∷ []) (key_of s.net q)
    goes_below q u = let k = goes q u in (k.0, small k.0 k.1 (cases_lt k.0 (x + 1)), k.1)
      where
        small : (j : ℕ) → Begins (front ++ j ∷ []) (key_of s.net q) → (j < x + 1) ⊎ (x + 1 ≤ j) → j < x + 1
        small j b (inl l) = l
        small j b (inr l) = absurd ((others j (λ f. omega arith)).none q (record { is = u.is; begins = b }))

    by : (o : Option Place) → IsFirstOrNone s (front ++ x ∷ []) o → IsFirstOrNone s front o
    by None a = none_left s front (x + 1) (next_one s front x below a) goes_below
    by (Some p) a = found_first s front x p below a
