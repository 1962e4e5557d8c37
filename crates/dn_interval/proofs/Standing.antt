-- Lists of spans that stand apart: where their addresses are, how such lists join, and that a set of
-- addresses has one of them.
use Rattle.std.proofs.Common.{◌≡◌, ℕ, ◌+◌, ◌<◌, ◌≤◌, ◌⊎◌, inl, inr, true, false, List, [], ◌∷◌, ◌++◌, refl, sym, ◌∙◌, subst, arith}
use Rattle.std.proofs.lemmas.Bool.{or_cases, false≢true, cases_order}
use Rattle.dn_base.proofs.Booleans.{same_tests, false_from_ne_true, or_left, or_right}
use Rattle.dn_interval.specs.declared.span.Span.{Span}
use Rattle.dn_interval.specs.declared.span.TheConstants.{TOP}
use Rattle.dn_interval.specs.Spans.{in_span, has, StandFrom, OneListOfSpans}
use Rattle.dn_interval.proofs.Membership.{in_from, lo_of, hi_of, has-append, same_span}

-- each span ends at least two addresses before an address
abbrev pub EndBefore : ℕ → List Span → Type 0
EndBefore to [] = Unit {0}
EndBefore to (s ∷ rest) = (s.hi + 2 ≤ to) × EndBefore to rest

pub stand_lower : (from to : ℕ) (xs : List Span) → StandFrom to xs → from ≤ to → StandFrom from xs
stand_lower from to [] p l = tt
stand_lower from to (s ∷ xs) p l = (omega (arith, p.0), p.1)

pub end_later : (from to : ℕ) (xs : List Span) → EndBefore from xs → from ≤ to → EndBefore to xs
end_later from to [] p l = tt
end_later from to (s ∷ xs) p l = (omega (arith, p.0), end_later from to xs p.1 l)

-- their addresses are not below where they stand
pub stands_above : (from : ℕ) (xs : List Span) (a : ℕ) → StandFrom from xs → has xs a ≡ true → from ≤ a
stands_above from [] a p e = absurd (false≢true e)
stands_above from (s ∷ xs) a p e = elim (or_cases (in_span s a) (has xs a) e) [
  | inl i ↦ omega (arith, p.0, lo_of s a i)
  | inr r ↦ omega (arith, p.0, s.ordered, stands_above (s.hi + 2) xs a p.1 r)
]

pub none_below : (from : ℕ) (xs : List Span) (a : ℕ) → StandFrom from xs → a < from → has xs a ≡ false
none_below from xs a p l = false_from_ne_true (has xs a) (λ e. let q : from ≤ a = stands_above from xs a p e in absurd (omega arith))

pub front_stands : (from : ℕ) (f r : List Span) → StandFrom from (f ++ r) → StandFrom from f
front_stands from [] r p = tt
front_stands from (s ∷ f) r p = (p.0, front_stands (s.hi + 2) f r p.1)

pub rest_stands : (from : ℕ) (f r : List Span) → StandFrom from (f ++ r) → StandFrom from r
rest_stands from [] r p = p
rest_stands from (s ∷ f) r p = stand_lower from (s.hi + 2) r (rest_stands (s.hi + 2) f r p.1) (omega (arith, p.0, s.ordered))

-- those in front end before each address of those behind
pub end_before : (from : ℕ) (f r : List Span) (x : ℕ) → StandFrom from (f ++ r) → has r x ≡ true → EndBefore x f
end_before from [] r x p e = tt
end_before from (s ∷ f) r x p e =
    (stands_above (s.hi + 2) (f ++ r) x p.1 (has-append f r x ∙ or_right (has f x) (has r x) e), end_before (s.hi + 2) f r x p.1 e)

-- those behind stand past each address of those in front
pub stand_past : (from : ℕ) (f r : List Span) (x : ℕ) → StandFrom from (f ++ r) → has f x ≡ true → StandFrom (x + 2) r
stand_past from [] r x p e = absurd (false≢true e)
stand_past from (s ∷ f) r x p e = elim (or_cases (in_span s x) (has f x) e) [
  | inl i ↦ stand_lower (x + 2) (s.hi + 2) r (rest_stands (s.hi + 2) f r p.1) (omega (arith, hi_of s x i))
  | inr h ↦ stand_past (s.hi + 2) f r x p.1 h
]

pub stand_joined : (from to : ℕ) (f r : List Span) → StandFrom from f → EndBefore to f → from ≤ to → StandFrom to r → StandFrom from (f ++ r)
stand_joined from to [] r p e l q = stand_lower from to r q l
stand_joined from to (s ∷ f) r p e l q = (p.0, stand_joined (s.hi + 2) to f r p.1 e.1 e.0 q)

pub end_joined : (to : ℕ) (f r : List Span) → EndBefore to f → EndBefore to r → EndBefore to (f ++ r)
end_joined to [] r e g = g
end_joined to (s ∷ f) r e g = (e.0, end_joined to f r e.1 g)

-- a set of addresses has one list of maximal spans

starts : (s : Span) (xs : List Span) → has (s ∷ xs) s.lo ≡ true
starts s xs = or_left (in_span s s.lo) (has xs s.lo) (in_from s s.lo (omega arith) s.ordered)

no_longer : (from : ℕ) (x y : Span) (xs ys : List Span) → StandFrom from (x ∷ xs) → x.lo ≡ y.lo → ((a : ℕ) → a ≤ TOP → has (x ∷ xs) a ≡ has (y ∷ ys) a) → x.hi < y.hi → ⊥
no_longer from x y xs ys p e same l = go (or_cases (in_span x (x.hi + 1)) (has xs (x.hi + 1)) there)
  where
    there : has (x ∷ xs) (x.hi + 1) ≡ true
    there = same (x.hi + 1) (omega (arith, l, y.within)) ∙ or_left (in_span y (x.hi + 1)) (has ys (x.hi + 1)) (in_from y (x.hi + 1) (omega (arith, e, x.ordered)) (omega (arith, l)))

    go : (in_span x (x.hi + 1) ≡ true) ⊎ (has xs (x.hi + 1) ≡ true) → ⊥
    go (inl i) = let h : x.hi + 1 ≤ x.hi = hi_of x (x.hi + 1) i in omega arith
    go (inr r) = let h : x.hi + 2 ≤ x.hi + 1 = stands_above (x.hi + 2) xs (x.hi + 1) p.1 r in omega arith

pub same_spans : (from : ℕ) (xs ys : List Span) → StandFrom from xs → StandFrom from ys → ((a : ℕ) → a ≤ TOP → has xs a ≡ has ys a) → xs ≡ ys
same_spans from [] [] p q same = refl
same_spans from [] (y ∷ ys) p q same = absurd (false≢true (same y.lo (omega (arith, y.ordered, y.within)) ∙ starts y ys))
same_spans from (x ∷ xs) [] p q same = absurd (false≢true (sym (same x.lo (omega (arith, x.ordered, x.within))) ∙ starts x xs))
same_spans from (x ∷ xs) (y ∷ ys) p q same = cons_same (same_span x y lo hi) (same_spans (x.hi + 2) xs ys p.1 (subst (λ n. StandFrom (n + 2) ys) (sym hi) q.1) tails)
  where
    cons_same : {u v : Span} {us vs : List Span} → u ≡ v → us ≡ vs → u ∷ us ≡ v ∷ vs
    cons_same p q = cc

    lo : x.lo ≡ y.lo
    lo =
        let a : y.lo ≤ x.lo = stands_above y.lo (y ∷ ys) x.lo ((omega arith), q.1) (sym (same x.lo (omega (arith, x.ordered, x.within))) ∙ starts x xs) in
        let b : x.lo ≤ y.lo = stands_above x.lo (x ∷ xs) y.lo ((omega arith), p.1) (same y.lo (omega (arith, y.ordered, y.within)) ∙ starts y ys) in
        omega arith

    hi : x.hi ≡ y.hi
    hi = elim (cases_order x.hi y.hi) [
      | inl e ↦ e
      | inr k ↦ elim k [
        | inl l ↦ absurd (no_longer from x y xs ys p lo same l)
        | inr l ↦ absurd (no_longer from y x ys xs q (sym lo) (λ a t. sym (same a t)) l)
      ]
    ]

    over : (from : ℕ) (u v : Span) (us vs : List Span) (a : ℕ) → StandFrom (u.hi + 2) us → u.hi ≡ v.hi → (has (u ∷ us) a ≡ true → has (v ∷ vs) a ≡ true) → has us a ≡ true → has vs a ≡ true
    over from u v us vs a s e f h = go (or_cases (in_span v a) (has vs a) (f (or_right (in_span u a) (has us a) h)))
      where
        go : (in_span v a ≡ true) ⊎ (has vs a ≡ true) → has vs a ≡ true
        go (inl i) =
            let k : u.hi + 2 ≤ a = stands_above (u.hi + 2) us a s h in
            let l : a ≤ v.hi = hi_of v a i in
            absurd (omega arith)
        go (inr r) = r

    tails : (a : ℕ) → a ≤ TOP → has xs a ≡ has ys a
    tails a t = same_tests (has xs a) (has ys a) (over from x y xs ys a p.1 hi (λ e. sym (same a t) ∙ e)) (over from y x ys xs a q.1 (sym hi) (λ e. same a t ∙ e))

pub one_list : OneListOfSpans
one_list xs ys p q same = same_spans 0 xs ys p q same
