-- Which addresses spans have, and that a span is its two ends.
use Rattle.std.proofs.Common.{◌≡◌, ℕ, ◌<◌, ◌≤◌, Bool, true, false, ◌&&◌, ◌||◌, List, ◌++◌, refl, ap, ◌∙◌, subst, leb}
use Rattle.std.proofs.lemmas.Bool.{leb-true, le-leb, lt-leb, and_parts, and_from}
use Rattle.std.proofs.lemmas.List.Folds.{list_any-append}
use Rattle.std.proofs.Math.Bridge.{le_prop}
use Rattle.dn_interval.specs.declared.span.Span.{Span}
use Rattle.dn_interval.specs.declared.span.TheConstants.{TOP}
use Rattle.dn_interval.specs.Spans.{in_span, has}

-- of a first test of two parts, whose second holds, and of other tests, which fail, the first part is left
pub only_first : (x y z : Bool) → y ≡ true → z ≡ false → x ≡ ((x && y) || z)
only_first true true z e f = refl
only_first true false z e f = cc
only_first false y true e f = cc
only_first false y false e f = refl

-- a span has the addresses between its ends

pub in_from : (s : Span) (a : ℕ) → s.lo ≤ a → a ≤ s.hi → in_span s a ≡ true
in_from s a l h = and_from (leb s.lo a) (leb a s.hi) (le-leb s.lo a l) (le-leb a s.hi h)

pub lo_of : (s : Span) (a : ℕ) → in_span s a ≡ true → s.lo ≤ a
lo_of s a e = leb-true s.lo a (and_parts (leb s.lo a) (leb a s.hi) e).0

pub hi_of : (s : Span) (a : ℕ) → in_span s a ≡ true → a ≤ s.hi
hi_of s a e = leb-true a s.hi (and_parts (leb s.lo a) (leb a s.hi) e).1

pub in_below : (s : Span) (a : ℕ) → a < s.lo → in_span s a ≡ false
in_below s a l = ap (λ t. t && leb a s.hi) (lt-leb s.lo a l)

pub in_above : (s : Span) (a : ℕ) → s.hi < a → in_span s a ≡ false
in_above s a l = go (leb s.lo a) (leb a s.hi) (lt-leb a s.hi l)
  where
    go : (x y : Bool) → y ≡ false → (x && y) ≡ false
    go true y e = e
    go false y e = refl

pub has-append : (xs ys : List Span) (a : ℕ) → has (xs ++ ys) a ≡ (has xs a || has ys a)
has-append xs ys a = list_any-append (λ s. in_span s a) xs ys

-- two spans with the same ends are one

made_same : (lo hi : ℕ) (o p : lo ≤ hi) (w v : hi ≤ TOP) → ◌≡◌ {A = Span} (record { lo = lo; hi = hi; ordered = o; within = w }) (record { lo = lo; hi = hi; ordered = p; within = v })
made_same lo hi o p w v =
    ap (λ t. record { lo = lo; hi = hi; ordered = t; within = w }) (le_prop o p)
    ∙ ap (λ t. record { lo = lo; hi = hi; ordered = p; within = t }) (le_prop w v)

pub same_span : (x y : Span) → x.lo ≡ y.lo → x.hi ≡ y.hi → x ≡ y
same_span x y e f = (subst Ends f (subst Starts e (λ p v. made_same x.lo x.hi x.ordered p x.within v))) y.ordered y.within
  where
    Starts : ℕ → Type 0
    Starts b = (p : b ≤ x.hi) (v : x.hi ≤ TOP) → ◌≡◌ {A = Span} x (record { lo = b; hi = x.hi; ordered = p; within = v })

    Ends : ℕ → Type 0
    Ends d = (p : y.lo ≤ d) (v : d ≤ TOP) → ◌≡◌ {A = Span} x (record { lo = y.lo; hi = d; ordered = p; within = v })
