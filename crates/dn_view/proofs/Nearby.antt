-- Which rows give names of so many from one on.
use Rattle.std.proofs.Common.{◌≡◌, ℕ, ◌+◌, ◌-◌, ◌<◌, ◌≤◌, ◌⊎◌, inl, inr, Bool, true, ◌&&◌, nat_eq, nat_lt, nat_le, if◌then◌else◌, List, [], ◌∷◌, ap, ◌∙◌, arith, eqb-true, eq-eqb, lt-ltb}
use Rattle.std.specs.List.{list_any}
use Rattle.std.proofs.lemmas.Bool.{cases_lt, and_parts, and_from, or_cases, or_left, or_right, le-leb, le-ltb}
use Rattle.dn_interval.specs.declared.row.End.{End}
use Rattle.dn_interval.specs.declared.row.Row.{Row}
use Rattle.dn_interval.specs.declared.span.Span.{Span}
use Rattle.dn_interval.specs.Rows.{further_end}
use Rattle.dn_interval.specs.Spans.{in_span}
use Rattle.dn_interval.specs.Strands.{ends_give, row_gives, rows_give}
use Rattle.dn_interval.proofs.Membership.{lo_of, hi_of}
use Rattle.dn_flat.specs.Levels.{levels_give}
use Rattle.dn_view.specs.Near.{end_near, is_near, levels_near, row_near, rows_near}

near_end : (t : End) (size : ℕ) (span : Span) (a i : ℕ) (e : End) → in_span span a ≡ true → i < size → e.node ≡ t.node → e.base + (a - span.lo) ≡ t.base + i → is_near t size span e ≡ true
near_end t size span a i e inside few node base = and_from (nat_eq e.node t.node) (if nat_lt t.base e.base then nat_lt (e.base - t.base) size else nat_le (t.base - e.base) (span.hi - span.lo)) (eq-eqb e.node t.node node) (go (cases_lt t.base e.base))
  where
    lo : span.lo ≤ a
    lo = lo_of span a inside

    hi : a ≤ span.hi
    hi = hi_of span a inside

    go : (t.base < e.base) ⊎ (e.base ≤ t.base) → (if nat_lt t.base e.base then nat_lt (e.base - t.base) size else nat_le (t.base - e.base) (span.hi - span.lo)) ≡ true
    go (inl m) = ap (λ (b : Bool). if b then nat_lt (e.base - t.base) size else nat_le (t.base - e.base) (span.hi - span.lo)) (lt-ltb t.base e.base m) ∙ lt-ltb (e.base - t.base) size (omega arith)
    go (inr m) =
        let l : span.lo ≤ a = lo in
        let h : a ≤ span.hi = hi in
        ap (λ (b : Bool). if b then nat_lt (e.base - t.base) size else nat_le (t.base - e.base) (span.hi - span.lo)) (le-ltb t.base e.base m) ∙ le-leb (t.base - e.base) (span.hi - span.lo) (omega arith)

abbrev is_end : Span → ℕ → End → End → Bool
is_end span a z e = nat_eq e.node z.node && nat_eq (e.base + (a - span.lo)) z.base

ends_to : (t : End) (size : ℕ) (span : Span) (es : List End) (a : ℕ) (z : End) → list_any (λ e. end_near t size span a z e) es ≡ true → ends_give es span.lo a z ≡ true
ends_to t size span [] a z p = p
ends_to t size span (e ∷ es) a z p = elim (or_cases (end_near t size span a z e) (list_any (λ e. end_near t size span a z e) es) p) [
  | inl g ↦ or_left (is_end span a z e) (ends_give es span.lo a z) (and_parts (is_near t size span e) (is_end span a z e) g).1
  | inr g ↦ or_right (is_end span a z e) (ends_give es span.lo a z) (ends_to t size span es a z g)
]

ends_from : (t : End) (size : ℕ) (span : Span) (es : List End) (a i : ℕ) → in_span span a ≡ true → i < size → ends_give es span.lo a (further_end i t) ≡ true → list_any (λ e. end_near t size span a (further_end i t) e) es ≡ true
ends_from t size span [] a i inside few p = p
ends_from t size span (e ∷ es) a i inside few p = elim (or_cases (is_end span a (further_end i t) e) (ends_give es span.lo a (further_end i t)) p) [
  | inl g ↦ (
      let q = and_parts (nat_eq e.node t.node) (nat_eq (e.base + (a - span.lo)) (t.base + i)) g in
      or_left (end_near t size span a (further_end i t) e) (list_any (λ e. end_near t size span a (further_end i t) e) es)
      (and_from (is_near t size span e) (is_end span a (further_end i t) e) (near_end t size span a i e inside few (eqb-true e.node t.node q.0) (eqb-true (e.base + (a - span.lo)) (t.base + i) q.1)) g)
      )
  | inr g ↦ or_right (end_near t size span a (further_end i t) e) (list_any (λ e. end_near t size span a (further_end i t) e) es) (ends_from t size span es a i inside few g)
]

near_to : (t : End) (size : ℕ) (rows : List Row) (a : ℕ) (z : End) → rows_near t size rows a z ≡ true → rows_give rows a z ≡ true
near_to t size [] a z p = p
near_to t size (r ∷ rows) a z p = elim (or_cases (row_near t size r a z) (rows_near t size rows a z) p) [
  | inl g ↦ (
      let q = and_parts (in_span r.span a) (list_any (λ e. end_near t size r.span a z e) r.ends) g in
      or_left (row_gives r a z) (rows_give rows a z) (and_from (in_span r.span a) (ends_give r.ends r.span.lo a z) q.0 (ends_to t size r.span r.ends a z q.1))
      )
  | inr g ↦ or_right (row_gives r a z) (rows_give rows a z) (near_to t size rows a z g)
]

near_from : (t : End) (size : ℕ) (rows : List Row) (a i : ℕ) → i < size → rows_give rows a (further_end i t) ≡ true → rows_near t size rows a (further_end i t) ≡ true
near_from t size [] a i few p = p
near_from t size (r ∷ rows) a i few p = elim (or_cases (row_gives r a (further_end i t)) (rows_give rows a (further_end i t)) p) [
  | inl g ↦ (
      let q = and_parts (in_span r.span a) (ends_give r.ends r.span.lo a (further_end i t)) g in
      or_left (row_near t size r a (further_end i t)) (rows_near t size rows a (further_end i t))
      (and_from (in_span r.span a) (list_any (λ e. end_near t size r.span a (further_end i t) e) r.ends) q.0 (ends_from t size r.span r.ends a i q.0 few q.1))
      )
  | inr g ↦ or_right (row_near t size r a (further_end i t)) (rows_near t size rows a (further_end i t)) (near_from t size rows a i few g)
]

pub levels_to : (t : End) (size : ℕ) (levels : List (List Row)) (a : ℕ) (z : End) → levels_near t size levels a z ≡ true → levels_give levels a z ≡ true
levels_to t size [] a z p = p
levels_to t size (rows ∷ levels) a z p = elim (or_cases (rows_near t size rows a z) (levels_near t size levels a z) p) [
  | inl g ↦ or_left (rows_give rows a z) (levels_give levels a z) (near_to t size rows a z g)
  | inr g ↦ or_right (rows_give rows a z) (levels_give levels a z) (levels_to t size levels a z g)
]

pub levels_from : (t : End) (size : ℕ) (levels : List (List Row)) (a i : ℕ) → i < size → levels_give levels a (further_end i t) ≡ true → levels_near t size levels a (further_end i t) ≡ true
levels_from t size [] a i few p = p
levels_from t size (rows ∷ levels) a i few p = elim (or_cases (rows_give rows a (further_end i t)) (levels_give levels a (further_end i t)) p) [
  | inl g ↦ or_left (rows_near t size rows a (further_end i t)) (levels_near t size levels a (further_end i t)) (near_from t size rows a i few g)
  | inr g ↦ or_right (rows_near t size rows a (further_end i t)) (levels_near t size levels a (further_end i t)) (levels_from t size levels a i few g)
]
