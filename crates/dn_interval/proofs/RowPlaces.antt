-- What stands where in a list of rows that stand apart: found by place, as a binary search finds it.
use Rattle.std.proofs.Common.{◌≡◌, ℕ, zero, suc, ◌<◌, ◌≤◌, inl, inr, Bool, true, false, ◌||◌, leb, ltb, Option, Some, None, List, [], ◌∷◌, drop, length, get_or, refl, sym, ap, ◌∙◌, arith}
use Rattle.std.specs.List.{AllWithin, slice_get, list_any}
use Rattle.std.proofs.lemmas.Bool.{le-leb, lt-ltb, ltb-true, or_cases, false≢true}
use Rattle.dn_base.proofs.Booleans.{false_from_ne_true}
use Rattle.dn_interval.specs.declared.row.Row.{Row}
use Rattle.dn_interval.specs.Spans.{in_span}
use Rattle.dn_interval.specs.Rows.{Apart}
use Rattle.dn_interval.proofs.Membership.{in_above, lo_of, only_first}

-- some row has the address
abbrev pub covered : List Row → ℕ → Bool
covered rows a = list_any (λ (r : Row). in_span r.span a) rows

stands_at : (from : ℕ) (rs : List Row) (j : ℕ) (d : Row) → Apart from rs → j < length rs → from ≤ (get_or rs j d).span.lo
stands_at from [] j d p l = absurd (omega arith)
stands_at from (r ∷ rs) zero d p l = p.0
stands_at from (r ∷ rs) (suc j) d p l = omega (arith, p.0, r.span.ordered, stands_at (suc r.span.hi) rs j d p.4 (omega arith))

ends_ascend : (from : ℕ) (rs : List Row) (i j : ℕ) (d : Row) → Apart from rs → i ≤ j → j < length rs → (get_or rs i d).span.hi ≤ (get_or rs j d).span.hi
ends_ascend from [] i j d p l h = absurd (omega arith)
ends_ascend from (r ∷ rs) zero zero d p l h = omega arith
ends_ascend from (r ∷ rs) zero (suc j) d p l h = omega (arith, stands_at (suc r.span.hi) rs j d p.4 (omega arith), (get_or rs j d).span.ordered)
ends_ascend from (r ∷ rs) (suc i) zero d p l h = absurd (omega arith)
ends_ascend from (r ∷ rs) (suc i) (suc j) d p l h = ends_ascend (suc r.span.hi) rs i j d p.4 (omega arith) (omega arith)

pub begins_ascend : (from : ℕ) (rs : List Row) (i j : ℕ) (d : Row) → Apart from rs → i ≤ j → j < length rs → (get_or rs i d).span.lo ≤ (get_or rs j d).span.lo
begins_ascend from [] i j d p l h = absurd (omega arith)
begins_ascend from (r ∷ rs) zero zero d p l h = omega arith
begins_ascend from (r ∷ rs) zero (suc j) d p l h = omega (arith, r.span.ordered, stands_at (suc r.span.hi) rs j d p.4 (omega arith))
begins_ascend from (r ∷ rs) (suc i) zero d p l h = absurd (omega arith)
begins_ascend from (r ∷ rs) (suc i) (suc j) d p l h = begins_ascend (suc r.span.hi) rs i j d p.4 (omega arith) (omega arith)

-- the rest of such a list stands apart
pub rest_apart : (from n : ℕ) (rs : List Row) → Apart from rs → (to : ℕ) × Apart to (drop n rs)
rest_apart from zero rs p = (from, p)
rest_apart from (suc n) [] p = (0, tt)
rest_apart from (suc n) (r ∷ rs) p = rest_apart (suc r.span.hi) n rs p.4

pub ends_part : (rs : List Row) (a i j : ℕ) (d : Row) → Apart 0 rs → i ≤ j → j < length rs → ltb (get_or rs j d).span.hi a ≡ true → ltb (get_or rs i d).span.hi a ≡ true
ends_part rs a i j d p l h e = lt-ltb (get_or rs i d).span.hi a (omega (arith, ends_ascend 0 rs i j d p l h, ltb-true (get_or rs j d).span.hi a e))

pub covered_above : (from : ℕ) (rs : List Row) (a : ℕ) → Apart from rs → covered rs a ≡ true → from ≤ a
covered_above from [] a p e = absurd (false≢true e)
covered_above from (r ∷ rs) a p e = elim (or_cases (in_span r.span a) (covered rs a) e) [
  | inl i ↦ omega (arith, p.0, lo_of r.span a i)
  | inr c ↦ omega (arith, p.0, r.span.ordered, covered_above (suc r.span.hi) rs a p.4 c)
]

-- an address is in the first row that does not end before it, or in none

abbrev pub begins_by : ℕ → Option Row → Bool
begins_by a None = false
begins_by a (Some r) = leb r.span.lo a

pub found : (from : ℕ) (rs : List Row) (i a : ℕ) → Apart from rs → i ≤ length rs → AllWithin (λ (r : Row). r.span.hi < a) rs 0 i → AllWithin (λ (r : Row). a ≤ r.span.hi) rs i (length rs) → begins_by a (slice_get rs i) ≡ covered rs a
found from [] zero a p l f b = refl
found from [] (suc i) a p l f b = absurd (omega arith)
found from (r ∷ rs) zero a p l f b = only_first (leb r.span.lo a) (leb a r.span.hi) (covered rs a) (le-leb a r.span.hi (b 0 r (omega arith) (omega arith))) (false_from_ne_true (covered rs a) (λ e. let q : suc r.span.hi ≤ a = covered_above (suc r.span.hi) rs a p.4 e in absurd (omega (arith, b 0 r (omega arith) (omega arith)))))
found from (r ∷ rs) (suc i) a p l f b =
    found (suc r.span.hi) rs i a p.4 (omega arith) (λ k d u v. f (suc k) d (omega arith) (omega arith)) (λ k d u v. b (suc k) d (omega arith) (omega arith)) ∙ ap (λ t. t || covered rs a) (sym (in_above r.span a (f 0 r (omega arith) (omega arith))))
