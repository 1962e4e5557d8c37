-- Names that two addresses of agents reach, and the inputs of which they are names.
use Rattle.std.proofs.Common.{◌≡◌, ℕ, ◌+◌, ◌-◌, ◌*◌, ◌/◌, ◌%◌, ◌^◌, ◌<◌, ◌≤◌, ◌⊎◌, inl, inr, sym, ◌∙◌, arith}
use Rattle.std.proofs.lemmas.Bool.{cases_lt}
use Rattle.std.proofs.lemmas.Nat.{pow_pos}
use Rattle.std.proofs.Math.Nat.{mod-lt, mod-add-div', div-mul-le_self}
use Rattle.dn_interval.specs.declared.span.Span.{Span}
use Rattle.dn_interval.proofs.Membership.{in_from}
use Rattle.dn_flat.specs.Crowds.{AreCrowded}
use Rattle.dn_place.specs.Slots.{HasCrowd}
use Rattle.dn_place.specs.Sought.{Sought}
use Rattle.dn_place.proofs.Nexts.{between}

-- of the inputs from one on, and before the next in its place in a slot, one alone is in its place
pub own_input : (x j page : ℕ) → x ≤ j → j < x + 2 ^ page → j % 2 ^ page ≡ x % 2 ^ page → x ≡ j
own_input x j page from to same = by (cases_lt x j)
  where
    by : (x < j) ⊎ (j ≤ x) → x ≡ j
    by (inl l) = absurd (between x j (2 ^ page) (pow_pos page) (omega arith) to same)
    by (inr l) = omega (arith, from, l)

add_one_mul : (a p : ℕ) → (a + 1) * p ≡ a * p + p
add_one_mul a p = omega arith

-- the first multiple past a number
pub past_by : (n p : ℕ) → 1 ≤ p → n < (n / p + 1) * p
past_by n p z =
    let m : (n / p + 1) * p ≡ n / p * p + p = add_one_mul (n / p) p in
    omega (arith, m, mod-add-div' n p, mod-lt n z)

pub within_by : (n p : ℕ) → (n / p + 1) * p ≤ n + p
within_by n p = omega (arith, add_one_mul (n / p) p, div-mul-le_self n p)

-- inputs in their place in a slot, up to the first past a span that the hop's own meets
pub crowd_at : (s : Sought) (unit : ℕ) (span : Span) (x j to page : ℕ) → 1 ≤ s.request.size → AreCrowded s.net unit span → span.lo < x + s.request.size → to ≤ span.hi + 2 ^ page → to % 2 ^ page ≡ x % 2 ^ page → x ≤ j → j < to → j % 2 ^ page ≡ x % 2 ^ page → HasCrowd s unit j
crowd_at s unit span x j to page some crowded meets next agree from below same = by (cases_lt j span.lo)
  where
    -- the input is not past the span
    last : j + 2 ^ page ≤ to
    last = go (cases_lt to (j + 2 ^ page))
      where
        go : (to < j + 2 ^ page) ⊎ (j + 2 ^ page ≤ to) → j + 2 ^ page ≤ to
        go (inl l) = absurd (between j to (2 ^ page) (pow_pos page) (omega (arith, below)) l (agree ∙ sym same))
        go (inr l) = l

    low : j ≤ span.hi
    low = omega (arith, last, next)

    by : (j < span.lo) ⊎ (span.lo ≤ j) → HasCrowd s unit j
    by (inl l) =
        let at : j + (span.lo - j) ≡ span.lo = omega (arith, l) in
        (span.lo - j, omega (arith, meets, from, l), crowded (j + (span.lo - j)) (in_from span (j + (span.lo - j)) (omega (arith, at)) (omega (arith, at, span.ordered))))
    by (inr l) = (0, some, crowded (j + 0) (in_from span (j + 0) (omega (arith, l)) (omega (arith, low))))
