-- A span joined with those that it touches, and put in their place.
use Rattle.std.proofs.Common.{◌≡◌, ℕ, suc, ◌+◌, ◌-◌, ◌<◌, ◌≤◌, ◌⊎◌, inl, inr, Bool, true, false, ◌&&◌, ◌||◌, leb, min, max, List, [], ◌∷◌, ◌++◌, take, drop, length, get_or, refl, sym, ap, ◌∙◌, subst, arith}
use Rattle.std.specs.List.{All, AllWithin}
use Rattle.std.proofs.lemmas.Bool.{or_cases, and_parts, and_from, leb-true, le-leb, false≢true, cases_lt}
use Rattle.std.proofs.lemmas.List.Edits.{split_between}
use Rattle.std.proofs.lemmas.List.Folds.{list_any_at}
use Rattle.dn_base.proofs.Booleans.{same_tests, or_left, or_right}
use Rattle.dn_interval.specs.declared.span.Span.{Span}
use Rattle.dn_interval.specs.Spans.{in_span, has, StandFrom}
use Rattle.dn_interval.proofs.Membership.{in_from, lo_of, hi_of, has-append}
use Rattle.dn_interval.proofs.Standing.{EndBefore, stand_lower, end_later, stands_above, front_stands, rest_stands, end_before, stand_past, stand_joined}
use Rattle.dn_interval.proofs.Places.{ends_ascend, end_within, stand_within, first_by_last}

-- the last span ends no earlier than any address of the list
ends_by : (from : ℕ) (x : Span) (xs : List Span) (d : Span) (a : ℕ) → StandFrom from (x ∷ xs) → has (x ∷ xs) a ≡ true → a ≤ (get_or (x ∷ xs) (length xs) d).hi
ends_by from x [] d a p e = elim (or_cases (in_span x a) false e) [
  | inl i ↦ hi_of x a i
  | inr r ↦ absurd (false≢true r)
]
ends_by from x (y ∷ ys) d a p e = elim (or_cases (in_span x a) (has (y ∷ ys) a) e) [
  | inl i ↦ omega (arith, hi_of x a i, ends_ascend from (x ∷ y ∷ ys) 0 (suc (length ys)) d p (omega arith) (omega arith))
  | inr r ↦ ends_by (x.hi + 2) y ys d a p.1 r
]

-- from the lower of two first addresses to the higher of two last ones nothing is left out

pub hull : (s f l : Span) (lo hi : ℕ) (xs : List Span) → StandFrom 0 xs → All (λ (t : Span). (t.lo ≤ s.hi + 1) × (s.lo ≤ t.hi + 1)) xs → 0 < length xs → f ≡ get_or xs 0 f → l ≡ get_or xs (length xs - 1) l → lo ≡ min s.lo f.lo → hi ≡ max s.hi l.hi → (a : ℕ) → (leb lo a && leb a hi) ≡ (in_span s a || has xs a)
hull s f l lo hi [] p t n ef el lo_is hi_is a = absurd (omega arith)
hull s f l lo hi (x ∷ xs) p t n ef el lo_is hi_is a = same_tests (leb lo a && leb a hi) (in_span s a || has (x ∷ xs) a) down up
  where
    last_at : l ≡ get_or (x ∷ xs) (length xs) l
    last_at = let e : length (x ∷ xs) - 1 ≡ length xs = omega arith in el ∙ ap (λ k. get_or (x ∷ xs) k l) e

    first_touches : s.lo ≤ f.hi + 1
    first_touches = subst (λ y. s.lo ≤ y.hi + 1) (sym ef) (t 0 x (omega arith)).1

    last_touches : l.lo ≤ s.hi + 1
    last_touches = subst (λ y. y.lo ≤ s.hi + 1) (sym last_at) (t (length xs) l (omega arith)).0

    in_first : in_span f a ≡ true → has (x ∷ xs) a ≡ true
    in_first e = list_any_at (λ y. in_span y a) (x ∷ xs) 0 f (omega arith) (ap (λ y. in_span y a) (sym ef) ∙ e)

    in_last : in_span l a ≡ true → has (x ∷ xs) a ≡ true
    in_last e = list_any_at (λ y. in_span y a) (x ∷ xs) (length xs) l (omega arith) (ap (λ y. in_span y a) (sym last_at) ∙ e)

    from_lo : (leb lo a && leb a hi) ≡ true → lo ≤ a
    from_lo e = leb-true lo a (and_parts (leb lo a) (leb a hi) e).0

    to_hi : (leb lo a && leb a hi) ≡ true → a ≤ hi
    to_hi e = leb-true a hi (and_parts (leb lo a) (leb a hi) e).1

    made : lo ≤ a → a ≤ hi → (leb lo a && leb a hi) ≡ true
    made u v = and_from (leb lo a) (leb a hi) (le-leb lo a u) (le-leb a hi v)

    down : (leb lo a && leb a hi) ≡ true → (in_span s a || has (x ∷ xs) a) ≡ true
    down e = elim (cases_lt a s.lo) [
      | inl k ↦ or_right (in_span s a) (has (x ∷ xs) a) (in_first (in_from f a (omega (arith, from_lo e, lo_is)) (omega (arith, first_touches))))
      | inr k ↦ elim (cases_lt s.hi a) [
        | inl m ↦ or_right (in_span s a) (has (x ∷ xs) a) (in_last (in_from l a (omega (arith, last_touches)) (omega (arith, to_hi e, hi_is))))
        | inr m ↦ or_left (in_span s a) (has (x ∷ xs) a) (in_from s a k m)
      ]
    ]

    begins : has (x ∷ xs) a ≡ true → f.lo ≤ a
    begins h = subst (λ y. y.lo ≤ a) (sym ef) (stands_above x.lo (x ∷ xs) a ((omega arith), p.1) h)

    ends : has (x ∷ xs) a ≡ true → a ≤ l.hi
    ends h = subst (λ y. a ≤ y.hi) (sym last_at) (ends_by 0 x xs l a p h)

    up : (in_span s a || has (x ∷ xs) a) ≡ true → (leb lo a && leb a hi) ≡ true
    up e = elim (or_cases (in_span s a) (has (x ∷ xs) a) e) [
      | inl i ↦ made (omega (arith, lo_of s a i, lo_is)) (omega (arith, hi_of s a i, hi_is))
      | inr h ↦ made (omega (arith, begins h, lo_is)) (omega (arith, ends h, hi_is))
    ]

-- a span put between those that end before it and those that begin behind it

abbrev pub Holds : Span → Span → List Span → Type 0
Holds j s m = (a : ℕ) → in_span j a ≡ (in_span s a || has m a)

between_stands : (f m b : List Span) (s j : Span) → StandFrom 0 (f ++ (m ++ b)) → EndBefore s.lo f → StandFrom (s.hi + 2) b → Holds j s m → StandFrom 0 (f ++ j ∷ b)
between_stands f m b s j p e q h = stand_joined 0 j.lo f (j ∷ b) (front_stands 0 f (m ++ b) p) front (omega arith) ((omega arith), behind)
  where
    first : (in_span s j.lo ≡ true) ⊎ (has m j.lo ≡ true)
    first = or_cases (in_span s j.lo) (has m j.lo) (sym (h j.lo) ∙ in_from j j.lo (omega arith) j.ordered)

    last : (in_span s j.hi ≡ true) ⊎ (has m j.hi ≡ true)
    last = or_cases (in_span s j.hi) (has m j.hi) (sym (h j.hi) ∙ in_from j j.hi j.ordered (omega arith))

    front : EndBefore j.lo f
    front = elim first [
      | inl i ↦ end_later s.lo j.lo f e (lo_of s j.lo i)
      | inr g ↦ end_before 0 f (m ++ b) j.lo p (has-append m b j.lo ∙ or_left (has m j.lo) (has b j.lo) g)
    ]

    behind : StandFrom (j.hi + 2) b
    behind = elim last [
      | inl i ↦ stand_lower (j.hi + 2) (s.hi + 2) b q (omega (arith, hi_of s j.hi i))
      | inr g ↦ stand_past 0 m b j.hi (rest_stands 0 f (m ++ b) p) g
    ]

swapped : (f i m b : Bool) → (f || ((i || m) || b)) ≡ (i || (f || (m || b)))
swapped true true m b = refl
swapped true false m b = refl
swapped false true m b = refl
swapped false false m b = refl

between_has : (f m b : List Span) (s j : Span) (a : ℕ) → Holds j s m → has (f ++ j ∷ b) a ≡ (in_span s a || has (f ++ (m ++ b)) a)
between_has f m b s j a h =
    has-append f (j ∷ b) a
    ∙ ap (λ t. has f a || (t || has b a)) (h a)
    ∙ swapped (has f a) (in_span s a) (has m a) (has b a)
    ∙ ap (λ t. in_span s a || (has f a || t)) (sym (has-append m b a))
    ∙ ap (λ t. in_span s a || t) (sym (has-append f (m ++ b) a))

-- spans that stand apart, and have the addresses of a span besides those of others
pub record IsPut (xs : List Span) (s : Span) (ys : List Span) : Type 0 where
  pub stands : StandFrom 0 ys
  pub have : (x : ℕ) → has ys x ≡ (in_span s x || has xs x)

module _ (xs : List Span) (s j : Span) (i n a : ℕ) (p : StandFrom 0 xs) (v : i ≤ length xs) (w : n ≤ length xs) (e : a ≡ s.lo - 1) (front : AllWithin (λ (t : Span). t.hi < a) xs 0 i) (behind : AllWithin (λ (t : Span). s.hi + 1 < t.lo) xs n (length xs)) (h : (x : ℕ) → in_span j x ≡ (in_span s x || has (take (n - i) (drop i xs)) x)) where
  parts : xs ≡ take i xs ++ (take (n - i) (drop i xs) ++ drop n xs)
  parts = split_between xs i n (first_by_last xs s i n a (omega arith) v front behind)

  put_stands : StandFrom 0 (take i xs ++ j ∷ drop n xs)
  put_stands =
      between_stands (take i xs) (take (n - i) (drop i xs)) (drop n xs) s j (subst (StandFrom 0) parts p)
      (end_within xs i s.lo (λ k d u v. omega (arith, front k d u v)) (omega arith))
      (stand_lower (s.hi + 2) (s.hi + 1 + 1) (drop n xs) (stand_within 0 xs n (s.hi + 1) p behind) (omega arith)) h

  put_has : (x : ℕ) → has (take i xs ++ j ∷ drop n xs) x ≡ (in_span s x || has xs x)
  put_has x = between_has (take i xs) (take (n - i) (drop i xs)) (drop n xs) s j x h ∙ ap (λ t. in_span s x || has t x) (sym parts)

  pub put_is : IsPut xs s (take i xs ++ j ∷ drop n xs)
  put_is = record { stands = put_stands; have = put_has }

-- the spans between two places stand apart
pub part_stands : (xs : List Span) (i n : ℕ) → StandFrom 0 xs → i ≤ n → StandFrom 0 (take (n - i) (drop i xs))
part_stands xs i n p l =
    front_stands 0 (take (n - i) (drop i xs)) (drop n xs) (rest_stands 0 (take i xs) (take (n - i) (drop i xs) ++ drop n xs) (subst (StandFrom 0) (split_between xs i n l) p))
