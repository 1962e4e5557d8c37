-- The tests of which names segments and rows give, and what the definitions say of them.
use Rattle.std.proofs.Common.{◌≡◌, ℕ, zero, suc, ◌+◌, ◌-◌, ◌≤◌, ◌⊎◌, inl, inr, Bool, true, false, ◌&&◌, ◌||◌, cond, nat_eq, List, [], ◌∷◌, ◌++◌, map, refl, sym, ap, ◌∙◌, arith, eqb-true}
use Rattle.std.specs.List.{All, list_any}
use Rattle.std.proofs.lemmas.Bool.{or_cases, and_parts, and_from, eq-eqb, false≢true}
use Rattle.dn_base.proofs.Booleans.{same_tests, or_left, or_right}
use Rattle.dn_interval.specs.declared.row.Seg.{Seg}
use Rattle.dn_interval.specs.declared.row.End.{End}
use Rattle.dn_interval.specs.declared.row.Row.{Row}
use Rattle.dn_interval.specs.declared.span.TheConstants.{TOP}
use Rattle.dn_interval.specs.Spans.{in_span}
use Rattle.dn_interval.specs.Rows.{Member, seg_name_at, names_at, SegmentsGive, further_end, HasEnds, Apart, EndsFit, GivenBy, AreNormal}
use Rattle.dn_interval.specs.Strands.{seg_gives, segs_give, ends_give, row_gives, rows_give}
use Rattle.dn_interval.proofs.Membership.{in_from, lo_of, hi_of}
use Rattle.dn_interval.proofs.Ends.{end_eq, one_end}
use Rattle.dn_interval.proofs.RowPlaces.{covered}

end_same : (x y : End) → x ≡ y → end_eq x y ≡ true
end_same x y e = and_from (nat_eq x.node y.node) (nat_eq x.base y.base) (eq-eqb x.node y.node (ap (λ t. t.node) e)) (eq-eqb x.base y.base (ap (λ t. t.base) e))

-- what one segment after others gives

pub names_at-append : (segs more : List Seg) (a : ℕ) → names_at (segs ++ more) a ≡ names_at segs a ++ names_at more a
names_at-append [] more a = refl
names_at-append (s ∷ rest) more a = go (in_span s.span a) (names_at-append rest more a)
  where
    go : (b : Bool) → names_at (rest ++ more) a ≡ names_at rest a ++ names_at more a → cond b (seg_name_at s a ∷ names_at (rest ++ more) a) (names_at (rest ++ more) a) ≡ cond b (seg_name_at s a ∷ names_at rest a) (names_at rest a) ++ names_at more a
    go true e = ap (λ t. seg_name_at s a ∷ t) e
    go false e = e

-- segments

pub segs_from : (segs : List Seg) (a : ℕ) (y : End) → Member y (names_at segs a) → segs_give segs a y ≡ true
segs_from [] a y m = absurd m
segs_from (s ∷ rest) a y m = go (in_span s.span a) refl m (segs_from rest a y)
  where
    go : (b : Bool) → in_span s.span a ≡ b → Member y (cond b (seg_name_at s a ∷ names_at rest a) (names_at rest a)) → (Member y (names_at rest a) → segs_give rest a y ≡ true) → (seg_gives s a y || segs_give rest a y) ≡ true
    go true e (inl f) g = or_left (seg_gives s a y) (segs_give rest a y) (and_from (in_span s.span a) (end_eq (seg_name_at s a) y) e (end_same (seg_name_at s a) y f))
    go true e (inr n) g = or_right (seg_gives s a y) (segs_give rest a y) (g n)
    go false e n g = or_right (seg_gives s a y) (segs_give rest a y) (g n)

pub segs_to : (segs : List Seg) (a : ℕ) (y : End) → segs_give segs a y ≡ true → Member y (names_at segs a)
segs_to [] a y e = absurd (false≢true e)
segs_to (s ∷ rest) a y e = go (in_span s.span a) refl (or_cases (seg_gives s a y) (segs_give rest a y) e) (segs_to rest a y)
  where
    go : (b : Bool) → in_span s.span a ≡ b → (seg_gives s a y ≡ true) ⊎ (segs_give rest a y ≡ true) → (segs_give rest a y ≡ true → Member y (names_at rest a)) → Member y (cond b (seg_name_at s a ∷ names_at rest a) (names_at rest a))
    go true f (inl g) r = inl (one_end (seg_name_at s a) y (and_parts (in_span s.span a) (end_eq (seg_name_at s a) y) g).1)
    go true f (inr g) r = inr (r g)
    go false f (inl g) r = absurd (false≢true (sym f ∙ (and_parts (in_span s.span a) (end_eq (seg_name_at s a) y) g).0))
    go false f (inr g) r = r g

-- rows

ends_from : (es : List End) (lo a : ℕ) (y : End) → Member y (map (further_end (a - lo)) es) → ends_give es lo a y ≡ true
ends_from [] lo a y m = absurd m
ends_from (e ∷ es) lo a y (inl f) = or_left (end_eq (further_end (a - lo) e) y) (ends_give es lo a y) (end_same (further_end (a - lo) e) y f)
ends_from (e ∷ es) lo a y (inr m) = or_right (end_eq (further_end (a - lo) e) y) (ends_give es lo a y) (ends_from es lo a y m)

ends_to : (es : List End) (lo a : ℕ) (y : End) → ends_give es lo a y ≡ true → Member y (map (further_end (a - lo)) es)
ends_to [] lo a y e = absurd (false≢true e)
ends_to (e ∷ es) lo a y f = elim (or_cases (end_eq (further_end (a - lo) e) y) (ends_give es lo a y) f) [
  | inl g ↦ inl (one_end (further_end (a - lo) e) y g)
  | inr g ↦ inr (ends_to es lo a y g)
]

pub rows_from : (rows : List Row) (a : ℕ) (y : End) → GivenBy rows a y → rows_give rows a y ≡ true
rows_from [] a y g = absurd g
rows_from (r ∷ rs) a y (inl g) = or_left (row_gives r a y) (rows_give rs a y) (and_from (in_span r.span a) (ends_give r.ends r.span.lo a y) g.0 (ends_from r.ends r.span.lo a y g.1))
rows_from (r ∷ rs) a y (inr g) = or_right (row_gives r a y) (rows_give rs a y) (rows_from rs a y g)

pub rows_to : (rows : List Row) (a : ℕ) (y : End) → rows_give rows a y ≡ true → GivenBy rows a y
rows_to [] a y e = absurd (false≢true e)
rows_to (r ∷ rs) a y e = elim (or_cases (row_gives r a y) (rows_give rs a y) e) [
  | inl g ↦ let p = and_parts (in_span r.span a) (ends_give r.ends r.span.lo a y) g in inl (p.0, ends_to r.ends r.span.lo a y p.1)
  | inr g ↦ inr (rows_to rs a y g)
]

pub are_normal : (segs : List Seg) (rows : List Row) → Apart 0 rows → ((a : ℕ) (y : End) → rows_give rows a y ≡ segs_give segs a y) → AreNormal (SegmentsGive segs) rows
are_normal segs rows p same = record {
  apart = p;
  exact = λ a y t. ((λ m. rows_to rows a y (same a y ∙ segs_from segs a y m)), (λ g. segs_to segs a y (sym (same a y) ∙ rows_from rows a y g)));
}

-- an address has a name exactly where a segment has the address, and where a row has it

abbrev pub covered_by : List Seg → ℕ → Bool
covered_by segs a = list_any (λ (s : Seg). in_span s.span a) segs

rows_covered : (rows : List Row) (a : ℕ) (y : End) → rows_give rows a y ≡ true → covered rows a ≡ true
rows_covered [] a y e = e
rows_covered (r ∷ rs) a y e = elim (or_cases (row_gives r a y) (rows_give rs a y) e) [
  | inl g ↦ or_left (in_span r.span a) (covered rs a) (and_parts (in_span r.span a) (ends_give r.ends r.span.lo a y) g).0
  | inr g ↦ or_right (in_span r.span a) (covered rs a) (rows_covered rs a y g)
]

segs_covered : (segs : List Seg) (a : ℕ) (y : End) → segs_give segs a y ≡ true → covered_by segs a ≡ true
segs_covered [] a y e = e
segs_covered (s ∷ rest) a y e = elim (or_cases (seg_gives s a y) (segs_give rest a y) e) [
  | inl g ↦ or_left (in_span s.span a) (covered_by rest a) (and_parts (in_span s.span a) (end_eq (seg_name_at s a) y) g).0
  | inr g ↦ or_right (in_span s.span a) (covered_by rest a) (segs_covered rest a y g)
]

some_end : (es : List End) (lo a : ℕ) → HasEnds es → (y : End) × (ends_give es lo a y ≡ true)
some_end [] lo a h = absurd h
some_end (e ∷ es) lo a h = (further_end (a - lo) e, or_left (end_eq (further_end (a - lo) e) (further_end (a - lo) e)) (ends_give es lo a (further_end (a - lo) e)) (end_same (further_end (a - lo) e) (further_end (a - lo) e) refl))

row_named : (from : ℕ) (rows : List Row) (a : ℕ) → Apart from rows → covered rows a ≡ true → (y : End) × (rows_give rows a y ≡ true)
row_named from [] a p e = absurd (false≢true e)
row_named from (r ∷ rs) a p e = elim (or_cases (in_span r.span a) (covered rs a) e) [
  | inl i ↦ let w = some_end r.ends r.span.lo a p.1 in (w.0, or_left (row_gives r a w.0) (rows_give rs a w.0) (and_from (in_span r.span a) (ends_give r.ends r.span.lo a w.0) i w.1))
  | inr c ↦ let w = row_named _ rs a p.4 c in (w.0, or_right (row_gives r a w.0) (rows_give rs a w.0) w.1)
]

seg_named : (segs : List Seg) (a : ℕ) → covered_by segs a ≡ true → (y : End) × (segs_give segs a y ≡ true)
seg_named [] a e = absurd (false≢true e)
seg_named (s ∷ rest) a e = elim (or_cases (in_span s.span a) (covered_by rest a) e) [
  | inl i ↦ (seg_name_at s a, or_left (seg_gives s a (seg_name_at s a)) (segs_give rest a (seg_name_at s a)) (and_from (in_span s.span a) (end_eq (seg_name_at s a) (seg_name_at s a)) i (end_same (seg_name_at s a) (seg_name_at s a) refl)))
  | inr c ↦ let w = seg_named rest a c in (w.0, or_right (seg_gives s a w.0) (segs_give rest a w.0) w.1)
]

pub covers_same : (segs : List Seg) (rows : List Row) → Apart 0 rows → ((a : ℕ) (y : End) → rows_give rows a y ≡ segs_give segs a y) → (a : ℕ) → covered rows a ≡ covered_by segs a
covers_same segs rows p same a = same_tests (covered rows a) (covered_by segs a)
    (λ e. let w = row_named 0 rows a p e in segs_covered segs a w.0 (sym (same a w.0) ∙ w.1))
    (λ e. let w = seg_named segs a e in rows_covered rows a w.0 (same a w.0 ∙ w.1))

-- the names of rows keep at or below the last address, since those of segments do

pub seg_fits : (s : Seg) (a : ℕ) (y : End) → seg_gives s a y ≡ true → y.base ≤ TOP
seg_fits s a y e =
    let p = and_parts (in_span s.span a) (nat_eq s.node y.node && nat_eq (s.base + (a - s.span.lo)) y.base) e in
    let q = and_parts (nat_eq s.node y.node) (nat_eq (s.base + (a - s.span.lo)) y.base) p.1 in
    let base : s.base + (a - s.span.lo) ≡ y.base = eqb-true (s.base + (a - s.span.lo)) y.base q.1 in
    let lo : s.span.lo ≤ a = lo_of s.span a p.0 in
    let hi : a ≤ s.span.hi = hi_of s.span a p.0 in
    let fits : s.base + (s.span.hi - s.span.lo) ≤ TOP = s.fits in
    omega arith

pub segs_fit : (segs : List Seg) (a : ℕ) (y : End) → segs_give segs a y ≡ true → y.base ≤ TOP
segs_fit [] a y e = absurd (false≢true e)
segs_fit (s ∷ rest) a y e = elim (or_cases (seg_gives s a y) (segs_give rest a y) e) [
  | inl g ↦ seg_fits s a y g
  | inr g ↦ segs_fit rest a y g
]

each_fits : (w : ℕ) (es : List End) → ((y : End) → Member y (map (further_end w) es) → y.base ≤ TOP) → All (λ (e : End). e.base + w ≤ TOP) es
each_fits w [] f k d l = absurd (omega arith)
each_fits w (e ∷ es) f zero d l = f (further_end w e) (inl refl)
each_fits w (e ∷ es) f (suc k) d l = each_fits w es (λ y m. f y (inr m)) k d (omega arith)

all_fit : (rows : List Row) → ((a : ℕ) (y : End) → rows_give rows a y ≡ true → y.base ≤ TOP) → All EndsFit rows
all_fit [] f k d l = absurd (omega arith)
all_fit (r ∷ rs) f zero d l = each_fits (r.span.hi - r.span.lo) r.ends (λ y m. f r.span.hi y (or_left (row_gives r r.span.hi y) (rows_give rs r.span.hi y) (and_from (in_span r.span r.span.hi) (ends_give r.ends r.span.lo r.span.hi y) (in_from r.span r.span.hi r.span.ordered (omega arith)) (ends_from r.ends r.span.lo r.span.hi y m))))
all_fit (r ∷ rs) f (suc k) d l = all_fit rs (λ a y g. f a y (or_right (row_gives r a y) (rows_give rs a y) g)) k d (omega arith)

pub rows_fit : (segs : List Seg) (rows : List Row) → ((a : ℕ) (y : End) → rows_give rows a y ≡ segs_give segs a y) → All EndsFit rows
rows_fit segs rows same = all_fit rows (λ a y g. segs_fit segs a y (sym (same a y) ∙ g))
