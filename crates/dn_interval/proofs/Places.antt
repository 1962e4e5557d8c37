-- What stands where in a list of spans that stand apart: found by place, as a binary search finds it.
use Rattle.std.proofs.Common.{◌≡◌, ℕ, zero, suc, ◌+◌, ◌<◌, ◌≤◌, Bool, true, false, ◌||◌, leb, ltb, Option, Some, None, List, [], ◌∷◌, take, drop, length, get_or, refl, sym, ap, ◌∙◌, inl, inr, arith}
use Rattle.std.specs.List.{AllWithin, slice_get}
use Rattle.std.proofs.lemmas.Bool.{le-leb, lt-ltb, ltb-true, leb-true, cases_lt}
use Rattle.dn_interval.specs.declared.span.Span.{Span}
use Rattle.dn_interval.specs.Spans.{has, StandFrom}
use Rattle.dn_interval.proofs.Membership.{in_above, only_first}
use Rattle.dn_interval.proofs.Standing.{EndBefore, none_below}

stands_at : (from : ℕ) (xs : List Span) (j : ℕ) (d : Span) → StandFrom from xs → j < length xs → from ≤ (get_or xs j d).lo
stands_at from [] j d p l = absurd (omega arith)
stands_at from (s ∷ xs) zero d p l = p.0
stands_at from (s ∷ xs) (suc j) d p l = omega (arith, p.0, s.ordered, stands_at (s.hi + 2) xs j d p.1 (omega arith))

-- a later span ends and begins later

pub ends_ascend : (from : ℕ) (xs : List Span) (i j : ℕ) (d : Span) → StandFrom from xs → i ≤ j → j < length xs → (get_or xs i d).hi ≤ (get_or xs j d).hi
ends_ascend from [] i j d p l h = absurd (omega arith)
ends_ascend from (s ∷ xs) zero zero d p l h = omega arith
ends_ascend from (s ∷ xs) zero (suc j) d p l h = omega (arith, stands_at (s.hi + 2) xs j d p.1 (omega arith), (get_or xs j d).ordered)
ends_ascend from (s ∷ xs) (suc i) zero d p l h = absurd (omega arith)
ends_ascend from (s ∷ xs) (suc i) (suc j) d p l h = ends_ascend (s.hi + 2) xs i j d p.1 (omega arith) (omega arith)

pub starts_ascend : (from : ℕ) (xs : List Span) (i j : ℕ) (d : Span) → StandFrom from xs → i ≤ j → j < length xs → (get_or xs i d).lo ≤ (get_or xs j d).lo
starts_ascend from [] i j d p l h = absurd (omega arith)
starts_ascend from (s ∷ xs) zero zero d p l h = omega arith
starts_ascend from (s ∷ xs) zero (suc j) d p l h = omega (arith, s.ordered, stands_at (s.hi + 2) xs j d p.1 (omega arith))
starts_ascend from (s ∷ xs) (suc i) zero d p l h = absurd (omega arith)
starts_ascend from (s ∷ xs) (suc i) (suc j) d p l h = starts_ascend (s.hi + 2) xs i j d p.1 (omega arith) (omega arith)

pub ends_part : (xs : List Span) (a i j : ℕ) (d : Span) → StandFrom 0 xs → i ≤ j → j < length xs → ltb (get_or xs j d).hi a ≡ true → ltb (get_or xs i d).hi a ≡ true
ends_part xs a i j d p l h e = lt-ltb (get_or xs i d).hi a (omega (arith, ends_ascend 0 xs i j d p l h, ltb-true (get_or xs j d).hi a e))

pub starts_part : (xs : List Span) (a i j : ℕ) (d : Span) → StandFrom 0 xs → i ≤ j → j < length xs → leb (get_or xs j d).lo a ≡ true → leb (get_or xs i d).lo a ≡ true
starts_part xs a i j d p l h e = le-leb (get_or xs i d).lo a (omega (arith, starts_ascend 0 xs i j d p l h, leb-true (get_or xs j d).lo a e))

-- an address is in the first span that does not end before it, or in none

abbrev pub begins_by : ℕ → Option Span → Bool
begins_by a None = false
begins_by a (Some s) = leb s.lo a

pub found : (from : ℕ) (xs : List Span) (i a : ℕ) → StandFrom from xs → i ≤ length xs → AllWithin (λ (s : Span). s.hi < a) xs 0 i → AllWithin (λ (s : Span). a ≤ s.hi) xs i (length xs) → begins_by a (slice_get xs i) ≡ has xs a
found from [] zero a p l f b = refl
found from [] (suc i) a p l f b = absurd (omega arith)
found from (s ∷ xs) zero a p l f b = only_first (leb s.lo a) (leb a s.hi) (has xs a) (le-leb a s.hi (b 0 s (omega arith) (omega arith))) (none_below (s.hi + 2) xs a p.1 (omega (arith, b 0 s (omega arith) (omega arith))))
found from (s ∷ xs) (suc i) a p l f b =
    found (s.hi + 2) xs i a p.1 (omega arith) (λ k d u v. f (suc k) d (omega arith) (omega arith)) (λ k d u v. b (suc k) d (omega arith) (omega arith)) ∙ ap (λ t. t || has xs a) (sym (in_above s a (f 0 s (omega arith) (omega arith))))

-- the spans before a place, and those from a place on

pub end_within : (xs : List Span) (n to : ℕ) → AllWithin (λ (s : Span). s.hi + 2 ≤ to) xs 0 n → n ≤ length xs → EndBefore to (take n xs)
end_within xs zero to f l = tt
end_within [] (suc n) to f l = tt
end_within (s ∷ xs) (suc n) to f l = (f 0 s (omega arith) (omega arith), end_within xs n to (λ k d u v. f (suc k) d (omega arith) (omega arith)) (omega arith))

pub stand_within : (from : ℕ) (xs : List Span) (n a : ℕ) → StandFrom from xs → AllWithin (λ (s : Span). a < s.lo) xs n (length xs) → StandFrom (a + 1) (drop n xs)
stand_within from [] zero a p b = tt
stand_within from [] (suc n) a p b = tt
stand_within from (s ∷ xs) zero a p b = (omega (arith, b 0 s (omega arith) (omega arith)), p.1)
stand_within from (s ∷ xs) (suc n) a p b = stand_within (s.hi + 2) xs n a p.1 (λ k d u v. b (suc k) d (omega arith) (omega arith))

-- the first span that a span touches stands no later than the last
pub first_by_last : (xs : List Span) (s : Span) (i j a : ℕ) → a ≤ s.lo → i ≤ length xs → AllWithin (λ (t : Span). t.hi < a) xs 0 i → AllWithin (λ (t : Span). s.hi + 1 < t.lo) xs j (length xs) → i ≤ j
first_by_last xs s i j a e l f b = elim (cases_lt j i) [
  | inl k ↦ absurd (omega (arith, s.ordered, (get_or xs j s).ordered, f j s (omega arith) k, b j s (omega arith) (omega arith)))
  | inr k ↦ k
]
