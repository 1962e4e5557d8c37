-- Spans as sets of addresses, and lists of maximal spans.
use Rattle.std.specs.Prelude.{◌≡◌, ℕ, ◌+◌, ◌≤◌, Bool, ◌&&◌, nat_le, List, [], ◌∷◌}
use Rattle.std.specs.List.{list_any}
use Rattle.dn_interval.specs.declared.span.Span.{Span}
use Rattle.dn_interval.specs.declared.span.TheConstants.{TOP}

-- the address lies in the span
abbrev pub in_span : Span → ℕ → Bool
in_span s a = nat_le s.lo a && nat_le a s.hi

-- the address lies in one of the spans
abbrev pub has : List Span → ℕ → Bool
has spans a = list_any (λ s. in_span s a) spans

-- the spans stand at an address or above it, ascending, and leave out at least one address between two
abbrev pub StandFrom : ℕ → List Span → Type 0
StandFrom from [] = Unit {0}
StandFrom from (s ∷ rest) = (from ≤ s.lo) × StandFrom (s.hi + 2) rest

-- the ascending list of the maximal spans of a set
abbrev pub AreMaximal : List Span → Type 0
AreMaximal spans = StandFrom 0 spans

-- two lists of maximal spans that have the same addresses are one list
abbrev pub OneListOfSpans : Type 0
OneListOfSpans = (xs ys : List Span) → AreMaximal xs → AreMaximal ys → ((a : ℕ) → a ≤ TOP → has xs a ≡ has ys a) → xs ≡ ys
