-- A segment whose names go on by rows, cut by one row after another.
use Rattle.std.proofs.Common.{◌≡◌, ℕ, zero, suc, ◌+◌, ◌-◌, ◌<◌, ◌≤◌, Bool, true, false, ◌&&◌, ◌||◌, List, [], ◌∷◌, take, drop, length, get_or, refl, sym, ap, ◌∙◌, subst, arith}
use Rattle.std.specs.List.{AllWithin}
use Rattle.std.proofs.lemmas.List.{get_or_default, take_rest}
use Rattle.dn_base.proofs.Booleans.{or-false}
use Rattle.dn_base.proofs.Lists.{drop_all}
use Rattle.dn_interval.specs.declared.row.End.{End}
use Rattle.dn_interval.specs.declared.row.Row.{Row}
use Rattle.dn_interval.specs.declared.row.Seg.{Seg}
use Rattle.dn_interval.specs.Spans.{in_span}
use Rattle.dn_interval.specs.Rows.{Apart}
use Rattle.dn_interval.specs.Strands.{segs_give, ends_give, rows_give}
use Rattle.dn_interval.specs.Onward.{seg_goes}
use Rattle.dn_interval.proofs.Membership.{in_above, in_below, lo_of, hi_of}
use Rattle.dn_interval.proofs.RowPlaces.{begins_ascend, rest_apart}

pub and_none : (p q : Bool) → (p ≡ true → q ≡ false) → (p && q) ≡ false
and_none true q f = f refl
and_none false q f = refl

-- rows that end before an address give it nothing, and so do those that begin behind it

dropped : (rows : List Row) (n b : ℕ) (z : End) → AllWithin (λ (r : Row). r.span.hi < b) rows 0 n → rows_give (drop n rows) b z ≡ rows_give rows b z
dropped [] zero b z f = refl
dropped [] (suc n) b z f = refl
dropped (r ∷ rows) zero b z f = refl
dropped (r ∷ rows) (suc n) b z f =
    dropped rows n b z (λ k d l h. f (suc k) d (omega arith) (omega arith))
    ∙ sym (ap (λ t. (t && ends_give r.ends r.span.lo b z) || rows_give rows b z) (in_above r.span b (f 0 r (omega arith) (omega arith))))

none_from : (rows : List Row) (i b : ℕ) (z : End) → ((k : ℕ) (d : Row) → i ≤ k → k < length rows → b < (get_or rows k d).span.lo) → rows_give (drop i rows) b z ≡ false
none_from [] zero b z f = refl
none_from [] (suc i) b z f = refl
none_from (r ∷ rows) zero b z f =
    ap (λ t. (t && ends_give r.ends r.span.lo b z) || rows_give rows b z) (in_below r.span b (f 0 r (omega arith) (omega arith)))
    ∙ none_from rows zero b z (λ k d l h. f (suc k) d (omega arith) (omega arith))
none_from (r ∷ rows) (suc i) b z f = none_from rows i b z (λ k d l h. f (suc k) d (omega arith) (omega arith))

abbrev pub rest_of : List Row → ℕ → List Row
rest_of rows first = take (length rows - first) (drop first rows)

module _ (all rows : List Row) (seg : Seg) (first i : ℕ) (old now : List Seg) (is : all ≡ rows) (apart : Apart 0 rows) (front : AllWithin (λ (r : Row). r.span.hi < seg.base) all 0 first) (so_far : (a : ℕ) (z : End) → (segs_give now a z || seg_goes (drop i (rest_of all first)) seg a z) ≡ (segs_give old a z || seg_goes (rest_of all first) seg a z)) where
  whole : (b : ℕ) (z : End) → seg.base ≤ b → rows_give (rest_of all first) b z ≡ rows_give all b z
  whole b z l = ap (λ t. rows_give t b z) (take_rest all first) ∙ dropped all first b z (λ k d m h. let r : (get_or all k d).span.hi < seg.base = front k d m h in omega arith)

  finished : ((a : ℕ) (z : End) → in_span seg.span a ≡ true → rows_give (drop i (rest_of all first)) (seg.base + (a - seg.span.lo)) z ≡ false) → (a : ℕ) (z : End) → segs_give now a z ≡ (segs_give old a z || seg_goes rows seg a z)
  finished past a z =
      sym (or-false (segs_give now a z))
      ∙ ap (λ t. segs_give now a z || t) (sym (and_none (in_span seg.span a) (rows_give (drop i (rest_of all first)) (seg.base + (a - seg.span.lo)) z) (past a z)))
      ∙ so_far a z
      ∙ ap (λ t. segs_give old a z || (in_span seg.span a && t)) (whole (seg.base + (a - seg.span.lo)) z (omega arith) ∙ ap (λ t. rows_give t (seg.base + (a - seg.span.lo)) z) is)

  rest_stands : (to : ℕ) × Apart to (rest_of all first)
  rest_stands =
      let r = rest_apart 0 first all (subst (Apart 0) (sym is) apart) in
      (r.0, subst (Apart r.0) (sym (take_rest all first)) r.1)

  -- no row is left
  pub all_cut : length (rest_of all first) ≤ i → (a : ℕ) (z : End) → segs_give now a z ≡ (segs_give old a z || seg_goes rows seg a z)
  all_cut l = finished (λ a z e. ap (λ t. rows_give t (seg.base + (a - seg.span.lo)) z) (drop_all i (rest_of all first) l))

  -- the rows that are left begin behind the segment
  pub rest_behind : (r : Row) → i < length (rest_of all first) → r ≡ get_or (rest_of all first) i r → seg.base + (seg.span.hi - seg.span.lo) < r.span.lo → (a : ℕ) (z : End) → segs_give now a z ≡ (segs_give old a z || seg_goes rows seg a z)
  rest_behind r l is_at over = finished (λ a z e. none_from (rest_of all first) i (seg.base + (a - seg.span.lo)) z (λ k d m h.
      let lo : seg.span.lo ≤ a = lo_of seg.span a e in
      let hi : a ≤ seg.span.hi = hi_of seg.span a e in
      let same : r ≡ get_or (rest_of all first) i d = is_at ∙ get_or_default (rest_of all first) i r d l in
      let at : r.span.lo ≡ (get_or (rest_of all first) i d).span.lo = ap (λ t. t.span.lo) same in
      let up : (get_or (rest_of all first) i d).span.lo ≤ (get_or (rest_of all first) k d).span.lo = begins_ascend rest_stands.0 (rest_of all first) i k d rest_stands.1 m h in
      omega arith))
