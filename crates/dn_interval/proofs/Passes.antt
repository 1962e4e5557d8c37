-- A pass that makes a list of spans: those made so far, and what is left to come, are together the
-- whole; and the steps of the passes that make a meeting and a complement.
use Rattle.std.proofs.Common.{◌≡◌, ℕ, ◌+◌, ◌-◌, ◌<◌, ◌≤◌, ◌⊎◌, inl, inr, Bool, true, false, ◌&&◌, ◌||◌, not, leb, min, max, List, [], ◌∷◌, ◌++◌, drop, length, get_or, refl, sym, ap, ◌∙◌, subst, arith}
use Rattle.std.proofs.lemmas.Bool.{and_parts, and_from, le-leb, lt-leb, leb-true, false≢true, cases_lt}
use Rattle.dn_base.proofs.Booleans.{same_tests, false_from_ne_true, or_left, or_right, and-false}
use Rattle.dn_base.proofs.Lists.{drop_at, drop_all}
use Rattle.dn_interval.specs.declared.span.Span.{Span}
use Rattle.dn_interval.specs.declared.span.TheConstants.{TOP}
use Rattle.dn_interval.specs.Spans.{in_span, has, StandFrom}
use Rattle.dn_interval.proofs.Membership.{in_from, lo_of, hi_of, in_below, in_above, has-append}
use Rattle.dn_interval.proofs.Standing.{EndBefore, end_joined, stands_above, none_below, stand_joined, stand_lower}

pub record Pass (made : List Span) (left whole : ℕ → Bool) : Type 0 where
  pub apart : StandFrom 0 made
  pub before : (x : ℕ) → left x ≡ true → EndBefore x made
  pub same : (x : ℕ) → (has made x || left x) ≡ whole x

pub begun : (whole : ℕ → Bool) → Pass [] whole whole
begun whole = record { apart = tt; before = λ x e. tt; same = λ x. refl }

regrouped : (m p l : Bool) → ((m || (p || false)) || l) ≡ (m || (p || l))
regrouped true p l = refl
regrouped false true l = refl
regrouped false false l = refl

pub pushed : (made : List Span) (p : Span) (left left' whole : ℕ → Bool) → Pass made left whole → ((x : ℕ) → left x ≡ (in_span p x || left' x)) → ((x : ℕ) → left' x ≡ true → p.hi + 2 ≤ x) → Pass (made ++ p ∷ []) left' whole
pushed made p left left' whole s e f = record {
  apart = stand_joined 0 p.lo made (p ∷ []) s.apart (s.before p.lo (e p.lo ∙ or_left (in_span p p.lo) (left' p.lo) (in_from p p.lo (omega arith) p.ordered))) (omega arith) ((omega arith), tt);
  before = λ x l. end_joined x made (p ∷ []) (s.before x (e x ∙ or_right (in_span p x) (left' x) l)) (f x l, tt);
  same = λ x. ap (λ t. t || left' x) (has-append made (p ∷ []) x) ∙ regrouped (has made x) (in_span p x) (left' x) ∙ ap (λ t. has made x || t) (sym (e x)) ∙ s.same x;
}

pub passed : (made : List Span) (left left' whole : ℕ → Bool) → Pass made left whole → ((x : ℕ) → left x ≡ left' x) → Pass made left' whole
passed made left left' whole s e = record {
  apart = s.apart;
  before = λ x l. s.before x (e x ∙ l);
  same = λ x. ap (λ t. has made x || t) (sym (e x)) ∙ s.same x;
}

pub ended : (made : List Span) (left whole : ℕ → Bool) → Pass made left whole → ((x : ℕ) → left x ≡ false) → (x : ℕ) → has made x ≡ whole x
ended made left whole s e x = sym (or_none (has made x) (left x) (e x)) ∙ s.same x
  where
    or_none : (m l : Bool) → l ≡ false → (m || l) ≡ m
    or_none true l e = refl
    or_none false l e = e

-- the meeting of two lists, from their first spans on

pub both : (s t p : Span) (x : ℕ) → p.lo ≡ max s.lo t.lo → p.hi ≡ min s.hi t.hi → in_span p x ≡ (in_span s x && in_span t x)
both s t p x lo hi = same_tests (in_span p x) (in_span s x && in_span t x)
    (λ e. and_from (in_span s x) (in_span t x) (in_from s x (omega (arith, lo_of p x e, lo)) (omega (arith, hi_of p x e, hi))) (in_from t x (omega (arith, lo_of p x e, lo)) (omega (arith, hi_of p x e, hi))))
    (λ e. let u = and_parts (in_span s x) (in_span t x) e in in_from p x (omega (arith, lo_of s x u.0, lo_of t x u.1, lo)) (omega (arith, hi_of s x u.0, hi_of t x u.1, hi)))

pub neither : (s t : Span) (x : ℕ) → min s.hi t.hi < max s.lo t.lo → (in_span s x && in_span t x) ≡ false
neither s t x l = false_from_ne_true (in_span s x && in_span t x) (λ e. let u = and_parts (in_span s x) (in_span t x) e in absurd (omega (arith, lo_of s x u.0, lo_of t x u.1, hi_of s x u.0, hi_of t x u.1)))

first_done : (i h j g : Bool) → (i ≡ true → g ≡ false) → ((i || h) && (j || g)) ≡ ((i && j) || (h && (j || g)))
first_done true h true g f = refl
first_done true true false g f = refl
first_done true false false g f = f refl
first_done false h j g f = refl

second_done : (i h j g : Bool) → (j ≡ true → h ≡ false) → ((i || h) && (j || g)) ≡ ((i && j) || ((i || h) && g))
second_done true h true g f = refl
second_done true h false g f = refl
second_done false true true g f = absurd (false≢true (sym (f refl)))
second_done false false true g f = refl
second_done false h false g f = refl

pub first_goes : (from to : ℕ) (s t : Span) (ss ts : List Span) → StandFrom from (s ∷ ss) → StandFrom to (t ∷ ts) → s.hi < t.hi → (x : ℕ) → (has (s ∷ ss) x && has (t ∷ ts) x) ≡ ((in_span s x && in_span t x) || (has ss x && has (t ∷ ts) x))
first_goes from to s t ss ts p q l x = first_done (in_span s x) (has ss x) (in_span t x) (has ts x) (λ e. none_below (t.hi + 2) ts x q.1 (omega (arith, hi_of s x e)))

pub second_goes : (from to : ℕ) (s t : Span) (ss ts : List Span) → StandFrom from (s ∷ ss) → StandFrom to (t ∷ ts) → t.hi ≤ s.hi → (x : ℕ) → (has (s ∷ ss) x && has (t ∷ ts) x) ≡ ((in_span s x && in_span t x) || (has (s ∷ ss) x && has ts x))
second_goes from to s t ss ts p q l x = second_done (in_span s x) (has ss x) (in_span t x) (has ts x) (λ e. none_below (s.hi + 2) ss x p.1 (omega (arith, hi_of t x e)))

-- what a list leaves out from an address on

abbrev pub left_out : ℕ → List Span → ℕ → Bool
left_out from xs x = leb from x && (leb x TOP && not (has xs x))

pub hole_before : (from : ℕ) (s p : Span) (xs : List Span) → StandFrom from (s ∷ xs) → p.lo ≡ from → p.hi + 1 ≡ s.lo → (x : ℕ) → left_out from (s ∷ xs) x ≡ (in_span p x || left_out (s.hi + 1) xs x)
hole_before from s p xs q lo hi x = elim (cases_lt x s.lo) [
  | inl k ↦ elim (cases_lt x from) [
    | inl l ↦ low (leb from x) (leb x TOP) (in_span s x) (has xs x) (in_span p x) (leb (s.hi + 1) x) (lt-leb from x l) (in_below p x (omega (arith, lo))) (lt-leb (s.hi + 1) x (omega (arith, s.ordered)))
    | inr l ↦ open' (leb from x) (leb x TOP) (in_span s x) (has xs x) (in_span p x) (leb (s.hi + 1) x) (le-leb from x l) (le-leb x TOP (omega (arith, s.within, s.ordered))) (in_below s x k) (none_below (s.hi + 2) xs x q.1 (omega (arith, s.ordered))) (in_from p x (omega (arith, lo)) (omega (arith, hi)))
  ]
  | inr k ↦ elim (cases_lt s.hi x) [
    | inl l ↦ high (leb from x) (leb x TOP) (in_span s x) (has xs x) (in_span p x) (leb (s.hi + 1) x) (le-leb from x (omega (arith, q.0))) (in_above s x l) (in_above p x (omega (arith, hi))) (le-leb (s.hi + 1) x (omega arith))
    | inr l ↦ inside (leb from x) (leb x TOP) (in_span s x) (has xs x) (in_span p x) (leb (s.hi + 1) x) (in_from s x k l) (in_above p x (omega (arith, hi))) (lt-leb (s.hi + 1) x (omega arith))
  ]
]
  where
    low : (f t i h g b : Bool) → f ≡ false → g ≡ false → b ≡ false → (f && (t && not (i || h))) ≡ (g || (b && (t && not h)))
    low f t i h g b u v w = rw (u, v, w)

    open' : (f t i h g b : Bool) → f ≡ true → t ≡ true → i ≡ false → h ≡ false → g ≡ true → (f && (t && not (i || h))) ≡ (g || (b && (t && not h)))
    open' f t i h g b u v w y z = rw (u, v, w, y, z)

    high : (f t i h g b : Bool) → f ≡ true → i ≡ false → g ≡ false → b ≡ true → (f && (t && not (i || h))) ≡ (g || (b && (t && not h)))
    high f t i h g b u v w z = rw (u, v, w, z)

    inside : (f t i h g b : Bool) → i ≡ true → g ≡ false → b ≡ false → (f && (t && not (i || h))) ≡ (g || (b && (t && not h)))
    inside true true i h g b u v w = rw (u, v, w)
    inside true false i h g b u v w = rw (v, w)
    inside false t i h g b u v w = rw (v, w)

pub no_hole : (from : ℕ) (s : Span) (xs : List Span) → StandFrom from (s ∷ xs) → s.lo ≤ from → (x : ℕ) → left_out from (s ∷ xs) x ≡ left_out (s.hi + 1) xs x
no_hole from s xs q e x = elim (cases_lt x s.lo) [
  | inl k ↦ low (leb from x) (leb x TOP) (in_span s x) (has xs x) (leb (s.hi + 1) x) (lt-leb from x (omega (arith, q.0))) (lt-leb (s.hi + 1) x (omega (arith, s.ordered)))
  | inr k ↦ elim (cases_lt s.hi x) [
    | inl l ↦ high (leb from x) (leb x TOP) (in_span s x) (has xs x) (leb (s.hi + 1) x) (le-leb from x (omega (arith, q.0, s.ordered))) (in_above s x l) (le-leb (s.hi + 1) x (omega arith))
    | inr l ↦ inside (leb from x) (leb x TOP) (in_span s x) (has xs x) (leb (s.hi + 1) x) (in_from s x k l) (lt-leb (s.hi + 1) x (omega arith))
  ]
]
  where
    low : (f t i h b : Bool) → f ≡ false → b ≡ false → (f && (t && not (i || h))) ≡ (b && (t && not h))
    low f t i h b u v = rw (u, v)

    high : (f t i h b : Bool) → f ≡ true → i ≡ false → b ≡ true → (f && (t && not (i || h))) ≡ (b && (t && not h))
    high f t i h b u v w = rw (u, v, w)

    inside : (f t i h b : Bool) → i ≡ true → b ≡ false → (f && (t && not (i || h))) ≡ (b && (t && not h))
    inside true true i h b u v = rw (u, v)
    inside true false i h b u v = rw v
    inside false t i h b u v = rw v

pub last_hole : (from : ℕ) (p : Span) → p.lo ≡ from → p.hi ≡ TOP → (x : ℕ) → left_out from [] x ≡ (in_span p x || false)
last_hole from p lo hi x = go (leb from x) (leb x TOP) (in_span p x) (ap (λ n. leb n x && leb x p.hi) lo ∙ ap (λ n. leb from x && leb x n) hi)
  where
    go : (f t i : Bool) → i ≡ (f && t) → (f && (t && true)) ≡ (i || false)
    go true true i e = rw e
    go true false i e = rw e
    go false t i e = rw e

pub no_last_hole : (from : ℕ) → TOP < from → (x : ℕ) → left_out from [] x ≡ false
no_last_hole from l x = elim (cases_lt x from) [
  | inl k ↦ ap (λ t. t && (leb x TOP && true)) (lt-leb from x k)
  | inr k ↦ go (leb from x) (leb x TOP) (lt-leb x TOP (omega arith))
]
  where
    go : (f t : Bool) → t ≡ false → (f && (t && true)) ≡ false
    go true t e = rw e
    go false t e = refl

-- one step of a pass, at places of the lists

pub rest_at : (from : ℕ) (xs : List Span) (i : ℕ) (s : Span) → i < length xs → s ≡ get_or xs i s → StandFrom from (drop i xs) → StandFrom (s.hi + 2) (drop (i + 1) xs)
rest_at from xs i s l e p = (subst (StandFrom from) (drop_at xs i s l e) p).1

pub rest_stands : (xs : List Span) (i : ℕ) (s : Span) → i < length xs → s ≡ get_or xs i s → StandFrom 0 (drop i xs) → StandFrom 0 (drop (i + 1) xs)
rest_stands xs i s l e p = stand_lower 0 (s.hi + 2) (drop (i + 1) xs) (rest_at 0 xs i s l e p) (omega arith)

-- what two spans have in common was put behind the spans made, or they have nothing in common
abbrev pub Met : Span → Span → List Span → List Span → Type 0
Met s t made met = ((p : Span) × (p.lo ≡ max s.lo t.lo) × (p.hi ≡ min s.hi t.hi) × (met ≡ made ++ p ∷ [])) ⊎ ((min s.hi t.hi < max s.lo t.lo) × (met ≡ made))

module _ (xs ys : List Span) (i j : ℕ) (s t : Span) (made : List Span) (whole : ℕ → Bool) (il : i < length xs) (se : s ≡ get_or xs i s) (jl : j < length ys) (te : t ≡ get_or ys j t) (sp : StandFrom 0 (drop i xs)) (tp : StandFrom 0 (drop j ys)) (pass : Pass made (λ x. has (drop i xs) x && has (drop j ys) x) whole) where
  xs_at : drop i xs ≡ s ∷ drop (i + 1) xs
  xs_at = drop_at xs i s il se

  ys_at : drop j ys ≡ t ∷ drop (j + 1) ys
  ys_at = drop_at ys j t jl te

  ahead : (x : ℕ) → (has (drop i xs) x && has (drop j ys) x) ≡ (has (s ∷ drop (i + 1) xs) x && has (t ∷ drop (j + 1) ys) x)
  ahead x = ap (λ l. has l x && has (drop j ys) x) xs_at ∙ ap (λ l. has (s ∷ drop (i + 1) xs) x && has l x) ys_at

  first : s.hi < t.hi → (x : ℕ) → (has (drop i xs) x && has (drop j ys) x) ≡ ((in_span s x && in_span t x) || (has (drop (i + 1) xs) x && has (drop j ys) x))
  first l x =
      ahead x
      ∙ first_goes 0 0 s t (drop (i + 1) xs) (drop (j + 1) ys) (subst (StandFrom 0) xs_at sp) (subst (StandFrom 0) ys_at tp) l x
      ∙ ap (λ l. (in_span s x && in_span t x) || (has (drop (i + 1) xs) x && has l x)) (sym ys_at)

  second : t.hi ≤ s.hi → (x : ℕ) → (has (drop i xs) x && has (drop j ys) x) ≡ ((in_span s x && in_span t x) || (has (drop i xs) x && has (drop (j + 1) ys) x))
  second l x =
      ahead x
      ∙ second_goes 0 0 s t (drop (i + 1) xs) (drop (j + 1) ys) (subst (StandFrom 0) xs_at sp) (subst (StandFrom 0) ys_at tp) l x
      ∙ ap (λ l. (in_span s x && in_span t x) || (has l x && has (drop (j + 1) ys) x)) (sym xs_at)

  first_taken : (p : Span) → p.lo ≡ max s.lo t.lo → p.hi ≡ min s.hi t.hi → s.hi < t.hi → Pass (made ++ p ∷ []) (λ x. has (drop (i + 1) xs) x && has (drop j ys) x) whole
  first_taken p lo hi l =
      pushed made p (λ x. has (drop i xs) x && has (drop j ys) x) (λ x. has (drop (i + 1) xs) x && has (drop j ys) x) whole pass
      (λ x. first l x ∙ ap (λ b. b || (has (drop (i + 1) xs) x && has (drop j ys) x)) (sym (both s t p x lo hi)))
      (λ x e. omega (arith, hi, stands_above (s.hi + 2) (drop (i + 1) xs) x (rest_at 0 xs i s il se sp) (and_parts (has (drop (i + 1) xs) x) (has (drop j ys) x) e).0))

  first_left : min s.hi t.hi < max s.lo t.lo → s.hi < t.hi → Pass made (λ x. has (drop (i + 1) xs) x && has (drop j ys) x) whole
  first_left n l =
      passed made (λ x. has (drop i xs) x && has (drop j ys) x) (λ x. has (drop (i + 1) xs) x && has (drop j ys) x) whole pass
      (λ x. first l x ∙ ap (λ b. b || (has (drop (i + 1) xs) x && has (drop j ys) x)) (neither s t x n))

  pub first_met : (met : List Span) → Met s t made met → s.hi < t.hi → Pass met (λ x. has (drop (i + 1) xs) x && has (drop j ys) x) whole
  first_met met (inl m) l = subst (λ v. Pass v (λ x. has (drop (i + 1) xs) x && has (drop j ys) x) whole) (sym m.3) (first_taken m.0 m.1 m.2 l)
  first_met met (inr m) l = subst (λ v. Pass v (λ x. has (drop (i + 1) xs) x && has (drop j ys) x) whole) (sym m.1) (first_left m.0 l)

  second_taken : (p : Span) → p.lo ≡ max s.lo t.lo → p.hi ≡ min s.hi t.hi → t.hi ≤ s.hi → Pass (made ++ p ∷ []) (λ x. has (drop i xs) x && has (drop (j + 1) ys) x) whole
  second_taken p lo hi l =
      pushed made p (λ x. has (drop i xs) x && has (drop j ys) x) (λ x. has (drop i xs) x && has (drop (j + 1) ys) x) whole pass
      (λ x. second l x ∙ ap (λ b. b || (has (drop i xs) x && has (drop (j + 1) ys) x)) (sym (both s t p x lo hi)))
      (λ x e. omega (arith, hi, stands_above (t.hi + 2) (drop (j + 1) ys) x (rest_at 0 ys j t jl te tp) (and_parts (has (drop i xs) x) (has (drop (j + 1) ys) x) e).1))

  second_left : min s.hi t.hi < max s.lo t.lo → t.hi ≤ s.hi → Pass made (λ x. has (drop i xs) x && has (drop (j + 1) ys) x) whole
  second_left n l =
      passed made (λ x. has (drop i xs) x && has (drop j ys) x) (λ x. has (drop i xs) x && has (drop (j + 1) ys) x) whole pass
      (λ x. second l x ∙ ap (λ b. b || (has (drop i xs) x && has (drop (j + 1) ys) x)) (neither s t x n))

  pub second_met : (met : List Span) → Met s t made met → t.hi ≤ s.hi → Pass met (λ x. has (drop i xs) x && has (drop (j + 1) ys) x) whole
  second_met met (inl m) l = subst (λ v. Pass v (λ x. has (drop i xs) x && has (drop (j + 1) ys) x) whole) (sym m.3) (second_taken m.0 m.1 m.2 l)
  second_met met (inr m) l = subst (λ v. Pass v (λ x. has (drop i xs) x && has (drop (j + 1) ys) x) whole) (sym m.1) (second_left m.0 l)

pub meeting_ended : (xs ys : List Span) (i j : ℕ) (made : List Span) (whole : ℕ → Bool) → Pass made (λ x. has (drop i xs) x && has (drop j ys) x) whole → (length xs ≤ i) ⊎ (length ys ≤ j) → (x : ℕ) → has made x ≡ whole x
meeting_ended xs ys i j made whole pass e = ended made (λ x. has (drop i xs) x && has (drop j ys) x) whole pass (λ x. none x e)
  where
    none : (x : ℕ) → (length xs ≤ i) ⊎ (length ys ≤ j) → (has (drop i xs) x && has (drop j ys) x) ≡ false
    none x (inl l) = ap (λ t. has t x && has (drop j ys) x) (drop_all i xs l)
    none x (inr l) = ap (λ t. has (drop i xs) x && has t x) (drop_all j ys l) ∙ and-false (has (drop i xs) x)

module _ (from : ℕ) (xs : List Span) (i : ℕ) (s : Span) (made : List Span) (whole : ℕ → Bool) (il : i < length xs) (se : s ≡ get_or xs i s) (sp : StandFrom from (drop i xs)) (pass : Pass made (left_out from (drop i xs)) whole) where
  here : StandFrom from (s ∷ drop (i + 1) xs)
  here = subst (StandFrom from) (drop_at xs i s il se) sp

  pub hole_made : (p : Span) → p.lo ≡ from → p.hi ≡ s.lo - 1 → from < s.lo → Pass (made ++ p ∷ []) (left_out (s.hi + 1) (drop (i + 1) xs)) whole
  hole_made p lo hi l =
      pushed made p (left_out from (drop i xs)) (left_out (s.hi + 1) (drop (i + 1) xs)) whole pass
      (λ x. ap (λ t. left_out from t x) (drop_at xs i s il se) ∙ hole_before from s p (drop (i + 1) xs) here lo (omega (arith, hi)) x)
      (λ x e. omega (arith, hi, s.ordered, leb-true (s.hi + 1) x (and_parts (leb (s.hi + 1) x) (leb x TOP && not (has (drop (i + 1) xs) x)) e).0))

  pub hole_missing : s.lo ≤ from → Pass made (left_out (s.hi + 1) (drop (i + 1) xs)) whole
  hole_missing l =
      passed made (left_out from (drop i xs)) (left_out (s.hi + 1) (drop (i + 1) xs)) whole pass
      (λ x. ap (λ t. left_out from t x) (drop_at xs i s il se) ∙ no_hole from s (drop (i + 1) xs) here l x)

module _ (from : ℕ) (xs : List Span) (i : ℕ) (made : List Span) (whole : ℕ → Bool) (il : length xs ≤ i) (pass : Pass made (left_out from (drop i xs)) whole) where
  pub last_made : (p : Span) → p.lo ≡ from → p.hi ≡ TOP → Pass (made ++ p ∷ []) (λ x. false) whole
  last_made p lo hi =
      pushed made p (left_out from (drop i xs)) (λ x. false) whole pass
      (λ x. ap (λ t. left_out from t x) (drop_all i xs il) ∙ last_hole from p lo hi x)
      (λ x e. absurd (false≢true e))

  pub last_missing : TOP < from → Pass made (λ x. false) whole
  last_missing l =
      passed made (left_out from (drop i xs)) (λ x. false) whole pass
      (λ x. ap (λ t. left_out from t x) (drop_all i xs il) ∙ no_last_hole from l x)

pub holes_same : (xs made : List Span) → Pass made (λ x. false) (left_out 0 xs) → (x : ℕ) → x ≤ TOP → has made x ≡ not (has xs x)
holes_same xs made pass x l = ended made (λ x. false) (left_out 0 xs) pass (λ x. refl) x ∙ go (leb 0 x) (leb x TOP) (le-leb 0 x (omega arith)) (le-leb x TOP l)
  where
    go : (z t : Bool) → z ≡ true → t ≡ true → (z && (t && not (has xs x))) ≡ not (has xs x)
    go z t e f = rw (e, f)
