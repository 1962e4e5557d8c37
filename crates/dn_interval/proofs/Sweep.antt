-- The sweep over strands: the rows made, and the strands that run and that are still to come.
use Rattle.std.proofs.Common.{◌≡◌, ℕ, zero, suc, ◌+◌, ◌-◌, ◌<◌, ◌≤◌, inl, inr, Bool, true, false, ◌&&◌, ◌||◌, cond, leb, nat_eq, List, [], ◌∷◌, ◌++◌, map, take, drop, length, get_or, refl, sym, ap, ◌∙◌, subst, arith}
use Rattle.std.specs.List.{All, list_any, filter}
use Rattle.std.specs.List.Sorted.{IsNonDecreasingBy}
use Rattle.std.proofs.lemmas.Bool.{or_cases, and_parts, and_from, le-leb, lt-leb, leb-true, eqb-true, false≢true, cases_lt, cases_Bool}
use Rattle.std.proofs.lemmas.List.{take-append-drop}
use Rattle.std.proofs.lemmas.List.Elements.{All-nil, All-cons, All-head, All-tail, All-append, All-take, All-drop, All-filter}
use Rattle.std.proofs.lemmas.List.Sorted.{IsNonDecreasingBy-drop}
use Rattle.std.proofs.lemmas.List.Folds.{list_any-append}
use Rattle.dn_base.proofs.Booleans.{false_from_ne_true, or_left, or_right}
use Rattle.dn_interval.specs.declared.row.End.{End}
use Rattle.dn_interval.specs.declared.row.Row.{Row}
use Rattle.dn_interval.specs.declared.strand.Strand.{Strand}
use Rattle.dn_interval.specs.declared.span.TheConstants.{TOP}
use Rattle.dn_interval.specs.Spans.{in_span}
use Rattle.dn_interval.specs.Rows.{further_end, Ascending, HasEnds, Parted, Apart}
use Rattle.dn_interval.specs.Strands.{is_slid, strand_gives, strands_give, slides_give, ends_give, row_gives, rows_give, IsMaximal}
use Rattle.dn_interval.proofs.Membership.{in_from, lo_of, hi_of, in_below, in_above}
use Rattle.dn_interval.proofs.Following.{strands_give-append, slid_node, slid_base, slid_from, gives_in}
use Rattle.dn_interval.proofs.Least.{ends_at}

-- what is still given from an address on
abbrev pub left : ℕ → List Strand → List Strand → ℕ → End → Bool
left from running rest a y = leb from a && (strands_give running a y || strands_give rest a y)

-- the row's names, moved on to an address, are not those that are given there
abbrev pub Breaks : (ℕ → End → Bool) → Row → ℕ → Type 0
Breaks whole r a = ((y : End) → ends_give r.ends r.span.lo a y ≡ whole a y) → ⊥

-- the last of the rows ends before an address, and breaks there if it ends just before it
abbrev pub ClosedBy : (ℕ → End → Bool) → Row → List Row → ℕ → Type 0
ClosedBy whole r [] to = (r.span.hi < to) × (suc r.span.hi ≡ to → Breaks whole r to)
ClosedBy whole r (s ∷ ss) to = ClosedBy whole s ss to

abbrev pub Closed : (ℕ → End → Bool) → List Row → ℕ → Type 0
Closed whole [] to = Unit {0}
Closed whole (r ∷ rs) to = ClosedBy whole r rs to

pub record Sweeping (whole : ℕ → End → Bool) (made : List Row) (from : ℕ) (running rest : List Strand) : Type 0 where
  pub apart : Apart 0 made
  pub closed : Closed whole made from
  pub within : from ≤ TOP + 1
  pub runs : All (λ (s : Strand). (s.span.lo ≤ from) × (from ≤ s.span.hi)) running
  pub later : All (λ (s : Strand). from ≤ s.span.lo) rest
  pub sorted : IsNonDecreasingBy (λ (s : Strand). s.span.lo) rest
  pub running_maximal : All (IsMaximal whole) running
  pub rest_maximal : All (IsMaximal whole) rest
  pub same : (a : ℕ) (y : End) → (rows_give made a y || left from running rest a y) ≡ whole a y

pub sweep_begun : (strands : List Strand) → All (IsMaximal (strands_give strands)) strands → IsNonDecreasingBy (λ (s : Strand). s.span.lo) strands → Sweeping (strands_give strands) [] 0 [] strands
sweep_begun strands m s = record {
  apart = tt;
  closed = tt;
  within = omega arith;
  runs = All-nil (λ (s : Strand). (s.span.lo ≤ 0) × (0 ≤ s.span.hi));
  later = λ k d l. omega arith;
  sorted = s;
  running_maximal = All-nil (IsMaximal (strands_give strands));
  rest_maximal = m;
  same = λ a y. ap (λ b. b && strands_give strands a y) (le-leb 0 a (omega arith));
}

-- on to where the next strand begins, if none runs

closed_later : (whole : ℕ → End → Bool) (r : Row) (rs : List Row) (from to : ℕ) → from < to → ClosedBy whole r rs from → ClosedBy whole r rs to
closed_later whole r [] from to l p = (omega (arith, p.0), λ e. absurd (omega (arith, p.0)))
closed_later whole r (s ∷ ss) from to l p = closed_later whole s ss from to l p

all_later : (whole : ℕ → End → Bool) (made : List Row) (from to : ℕ) → from ≤ to → Closed whole made from → Closed whole made to
all_later whole [] from to l p = tt
all_later whole (r ∷ rs) from to l p = elim (cases_lt from to) [
  | inl k ↦ closed_later whole r rs from to k p
  | inr k ↦ let e : from ≡ to = omega arith in subst (ClosedBy whole r rs) e p
]

rest_from : (xs : List Strand) (from a : ℕ) (y : End) → All (λ (s : Strand). from ≤ s.span.lo) xs → strands_give xs a y ≡ true → from ≤ a
rest_from [] from a y p e = absurd (false≢true e)
rest_from (x ∷ xs) from a y p e = elim (or_cases (strand_gives x a y) (strands_give xs a y) e) [
  | inl g ↦ omega (arith, p 0 x (omega arith), lo_of x.span a (gives_in x a y g))
  | inr g ↦ rest_from xs from a y (All-tail (λ (s : Strand). from ≤ s.span.lo) x xs p) g
]

left_later : (xs : List Strand) (from to a : ℕ) (y : End) → from ≤ to → All (λ (s : Strand). to ≤ s.span.lo) xs → left to [] xs a y ≡ left from [] xs a y
left_later xs from to a y l p = elim (cases_Bool (strands_give xs a y)) [
  | inl e ↦
      let k : to ≤ a = rest_from xs to a y p e in
      ap (λ b. b && strands_give xs a y) (le-leb to a k ∙ sym (le-leb from a (omega arith)))
  | inr e ↦ ap (λ b. leb to a && b) e ∙ none (leb to a) (leb from a) ∙ ap (λ b. leb from a && b) (sym e)
]
  where
    none : (p q : Bool) → (p && false) ≡ (q && false)
    none true true = refl
    none true false = refl
    none false true = refl
    none false false = refl

pub advanced : (whole : ℕ → End → Bool) (made : List Row) (from to : ℕ) (running rest : List Strand) → Sweeping whole made from running rest → 0 < length running + length rest → (0 < length running → to ≡ from) → ((d : Strand) → length running ≡ 0 → (get_or rest 0 d).span.lo ≡ to) → from ≤ to → All (λ (s : Strand). to ≤ s.span.lo) rest → Sweeping whole made to running rest
advanced whole made from to (x ∷ xs) rest v some runs begins l p = let e : from ≡ to = sym (runs (omega arith)) in subst (λ n. Sweeping whole made n (x ∷ xs) rest) e v
advanced whole made from to [] [] v some runs begins l p = absurd (omega arith)
advanced whole made from to [] (t ∷ ts) v some runs begins l p = record {
  apart = v.apart;
  closed = all_later whole made from to l v.closed;
  within = let e : t.span.lo ≡ to = begins t refl in omega (arith, t.span.ordered, t.span.within);
  runs = All-nil (λ (s : Strand). (s.span.lo ≤ to) × (to ≤ s.span.hi));
  later = p;
  sorted = v.sorted;
  running_maximal = v.running_maximal;
  rest_maximal = v.rest_maximal;
  same = λ a y. ap (λ b. rows_give made a y || b) (left_later (t ∷ ts) from to a y l p) ∙ v.same a y;
}

-- the strands that begin there run

pub running_more : (whole : ℕ → End → Bool) (made : List Row) (from : ℕ) (running rest : List Strand) (n : ℕ) → Sweeping whole made from running rest → All (λ (s : Strand). s.span.lo ≡ from) (take n rest) → Sweeping whole made from (running ++ take n rest) (drop n rest)
running_more whole made from running rest n v p = record {
  apart = v.apart;
  closed = v.closed;
  within = v.within;
  runs = All-append (λ (s : Strand). (s.span.lo ≤ from) × (from ≤ s.span.hi)) running (take n rest) v.runs (λ k d l. let e : (get_or (take n rest) k d).span.lo ≡ from = p k d l in (omega arith, omega (arith, (get_or (take n rest) k d).span.ordered)));
  later = All-drop (λ (s : Strand). from ≤ s.span.lo) n rest v.later;
  sorted = IsNonDecreasingBy-drop (λ (s : Strand). s.span.lo) n rest v.sorted;
  running_maximal = All-append (IsMaximal whole) running (take n rest) v.running_maximal (All-take (IsMaximal whole) n rest v.rest_maximal);
  rest_maximal = All-drop (IsMaximal whole) n rest v.rest_maximal;
  same = λ a y. ap (λ b. rows_give made a y || (leb from a && b)) (parts a y) ∙ v.same a y;
}
  where
    grouped : (p q r : Bool) → ((p || q) || r) ≡ (p || (q || r))
    grouped true q r = refl
    grouped false q r = refl

    parts : (a : ℕ) (y : End) → (strands_give (running ++ take n rest) a y || strands_give (drop n rest) a y) ≡ (strands_give running a y || strands_give rest a y)
    parts a y =
        ap (λ b. b || strands_give (drop n rest) a y) (strands_give-append running (take n rest) a y)
        ∙ grouped (strands_give running a y) (strands_give (take n rest) a y) (strands_give (drop n rest) a y)
        ∙ ap (λ b. strands_give running a y || b) (sym (strands_give-append (take n rest) (drop n rest) a y) ∙ ap (λ l. strands_give l a y) (take-append-drop n rest))

-- rows end before the address to which they are closed

ends_below : (whole : ℕ → End → Bool) (from : ℕ) (r : Row) (rs : List Row) (to : ℕ) → Apart from (r ∷ rs) → ClosedBy whole r rs to → r.span.hi < to
ends_below whole from r [] to p c = c.0
ends_below whole from r (s ∷ ss) to p c = omega (arith, p.4.0, s.span.ordered, ends_below whole (suc r.span.hi) s ss to p.4 c)

rows_below : (whole : ℕ → End → Bool) (from : ℕ) (made : List Row) (to a : ℕ) (y : End) → Apart from made → Closed whole made to → rows_give made a y ≡ true → a < to
rows_below whole from [] to a y p c e = absurd (false≢true e)
rows_below whole from (r ∷ []) to a y p c e = elim (or_cases (row_gives r a y) false e) [
  | inl g ↦ omega (arith, c.0, hi_of r.span a (and_parts (in_span r.span a) (ends_give r.ends r.span.lo a y) g).0)
  | inr g ↦ absurd (false≢true g)
]
rows_below whole from (r ∷ s ∷ ss) to a y p c e = elim (or_cases (row_gives r a y) (rows_give (s ∷ ss) a y) e) [
  | inl g ↦ omega (arith, ends_below whole from r (s ∷ ss) to p c, hi_of r.span a (and_parts (in_span r.span a) (ends_give r.ends r.span.lo a y) g).0)
  | inr g ↦ rows_below whole (suc r.span.hi) (s ∷ ss) to a y p.4 c g
]

-- a row that gives what is given where it begins stands apart from those that break there

moved_gives : (es : List End) (lo at : ℕ) (y : End) → ends_give es lo at y ≡ ends_give (map (further_end (at - lo)) es) at at y
moved_gives [] lo at y = refl
moved_gives (e ∷ es) lo at y =
    let n : e.base + (at - lo) ≡ (e.base + (at - lo)) + (at - at) = omega arith in
    ap (λ k. (nat_eq e.node y.node && nat_eq k y.base) || ends_give es lo at y) n
    ∙ ap (λ b. (nat_eq e.node y.node && nat_eq ((e.base + (at - lo)) + (at - at)) y.base) || b) (moved_gives es lo at y)

parted : (whole : ℕ → End → Bool) (q r : Row) → (suc q.span.hi ≡ r.span.lo → Breaks whole q r.span.lo) → ((y : End) → ends_give r.ends r.span.lo r.span.lo y ≡ whole r.span.lo y) → Parted q (r ∷ [])
parted whole q r b g e f = b (sym e) (λ y.
    moved_gives q.ends q.span.lo r.span.lo y
    ∙ ap (λ n. ends_give (map (further_end (n - q.span.lo)) q.ends) r.span.lo r.span.lo y) e
    ∙ ap (λ l. ends_give l r.span.lo r.span.lo y) (sym f)
    ∙ g y)

apart_push : (whole : ℕ → End → Bool) (from : ℕ) (made : List Row) (r : Row) → Apart from made → Closed whole made r.span.lo → from ≤ r.span.lo → HasEnds r.ends → Ascending r.ends → ((y : End) → ends_give r.ends r.span.lo r.span.lo y ≡ whole r.span.lo y) → Apart from (made ++ r ∷ [])
apart_push whole from [] r p c l h s g = (l, h, s, tt, tt)
apart_push whole from (q ∷ []) r p c l h s g = (p.0, p.1, p.2, parted whole q r c.1 g, (c.0, h, s, tt, tt))
apart_push whole from (q ∷ t ∷ ts) r p c l h s g =
    (p.0, p.1, p.2, p.3, apart_push whole (suc q.span.hi) (t ∷ ts) r p.4 c (omega (arith, ends_below whole from q (t ∷ ts) r.span.lo p c)) h s g)

closed_push : (whole : ℕ → End → Bool) (made : List Row) (r : Row) (to : ℕ) → r.span.hi < to → (suc r.span.hi ≡ to → Breaks whole r to) → Closed whole (made ++ r ∷ []) to
closed_push whole [] r to l b = (l, b)
closed_push whole (q ∷ qs) r to l b = go q qs
  where
    go : (q : Row) (qs : List Row) → ClosedBy whole q (qs ++ r ∷ []) to
    go q [] = (l, b)
    go q (t ∷ ts) = go t ts

-- a strand that ends at an address, and one that begins at it

last_one : (gives : ℕ → End → Bool) (hi : ℕ) (xs : List Strand) → All (IsMaximal gives) xs → ends_at hi xs ≡ true → (s : Strand) × (IsMaximal gives s × ((s.span.hi ≡ hi) × ((a : ℕ) (y : End) → is_slid s.node s.slide a y ≡ true → slides_give xs a y ≡ true)))
last_one gives hi [] m e = absurd (false≢true e)
last_one gives hi (x ∷ xs) m e = elim (or_cases (nat_eq x.span.hi hi) (ends_at hi xs) e) [
  | inl f ↦ (x, (All-head (IsMaximal gives) x xs m, (eqb-true x.span.hi hi f, λ a y g. or_left (is_slid x.node x.slide a y) (slides_give xs a y) g)))
  | inr f ↦
      let w = last_one gives hi xs (All-tail (IsMaximal gives) x xs m) f in
      (w.0, (w.1.0, (w.1.1.0, λ a y g. or_right (is_slid x.node x.slide a y) (slides_give xs a y) (w.1.1.1 a y g))))
]

first_one : (gives : ℕ → End → Bool) (lo : ℕ) (xs : List Strand) → All (IsMaximal gives) xs → list_any (λ (s : Strand). nat_eq s.span.lo lo) xs ≡ true → (s : Strand) × (IsMaximal gives s × ((s.span.lo ≡ lo) × ((a : ℕ) (y : End) → strand_gives s a y ≡ true → strands_give xs a y ≡ true)))
first_one gives lo [] m e = absurd (false≢true e)
first_one gives lo (x ∷ xs) m e = elim (or_cases (nat_eq x.span.lo lo) (list_any (λ (s : Strand). nat_eq s.span.lo lo) xs) e) [
  | inl f ↦ (x, (All-head (IsMaximal gives) x xs m, (eqb-true x.span.lo lo f, λ a y g. or_left (strand_gives x a y) (strands_give xs a y) g)))
  | inr f ↦
      let w = first_one gives lo xs (All-tail (IsMaximal gives) x xs m) f in
      (w.0, (w.1.0, (w.1.1.0, λ a y g. or_right (strand_gives x a y) (strands_give xs a y) (w.1.1.1 a y g))))
]

-- the name that a strand gives to an address
abbrev pub name_of : Strand → ℕ → End
name_of s a = record { node = s.node; base = s.slide + a - TOP }

name_slid : (s : Strand) (a : ℕ) → s.span.lo ≤ a → is_slid s.node s.slide a (name_of s a) ≡ true
name_slid s a l = slid_from s.node s.slide a (name_of s a) refl (omega (arith, s.low))

-- strands that run at an address and give a name to the next give the name before it there
slid_back : (xs : List Strand) (hi : ℕ) (y : End) → All (λ (s : Strand). (s.span.lo ≤ hi) × (hi ≤ s.span.hi)) xs → slides_give xs (hi + 1) y ≡ true → (z : End) × ((strands_give xs hi z ≡ true) × ((z.node ≡ y.node) × (z.base + 1 ≡ y.base)))
slid_back [] hi y p e = absurd (false≢true e)
slid_back (x ∷ xs) hi y p e = elim (or_cases (is_slid x.node x.slide (hi + 1) y) (slides_give xs (hi + 1) y) e) [
  | inl f ↦ here f
  | inr f ↦
      let w = slid_back xs hi y (All-tail (λ (s : Strand). (s.span.lo ≤ hi) × (hi ≤ s.span.hi)) x xs p) f in
      (w.0, (or_right (strand_gives x hi w.0) (strands_give xs hi w.0) w.1.0, w.1.1))
]
  where
    within : (x.span.lo ≤ hi) × (hi ≤ x.span.hi)
    within = p 0 x (omega arith)

    here : is_slid x.node x.slide (hi + 1) y ≡ true → (z : End) × ((strands_give (x ∷ xs) hi z ≡ true) × ((z.node ≡ y.node) × (z.base + 1 ≡ y.base)))
    here f =
        let low : TOP ≤ x.slide + hi = omega (arith, x.low, within.0) in
        let sum : x.slide + (hi + 1) ≡ y.base + TOP = slid_base x.node x.slide (hi + 1) y f in
        let gives : strand_gives x hi (name_of x hi) ≡ true = and_from (in_span x.span hi) (is_slid x.node x.slide hi (name_of x hi)) (in_from x.span hi within.0 within.1) (name_slid x hi within.0) in
        (name_of x hi, (or_left (strand_gives x hi (name_of x hi)) (strands_give xs hi (name_of x hi)) gives, (slid_node x.node x.slide (hi + 1) y f, omega arith)))

-- the next row

module _ (whole : ℕ → End → Bool) (made : List Row) (from hi : ℕ) (running rest : List Strand) (v : Sweeping whole made from running rest) (some : 0 < length running) (on : All (λ (s : Strand). hi ≤ s.span.hi) running) (behind : All (λ (s : Strand). hi < s.span.lo) rest) (ahead : All (λ (s : Strand). from < s.span.lo) rest) (reached : (ends_at hi running || list_any (λ (s : Strand). nat_eq s.span.lo (hi + 1)) rest) ≡ true) where
  hi_by_end : (xs : List Strand) → All (λ (s : Strand). (s.span.lo ≤ from) × (from ≤ s.span.hi)) xs → ends_at hi xs ≡ true → from ≤ hi
  hi_by_end [] p e = absurd (false≢true e)
  hi_by_end (x ∷ xs) p e = elim (or_cases (nat_eq x.span.hi hi) (ends_at hi xs) e) [
    | inl f ↦ let g : x.span.hi ≡ hi = eqb-true x.span.hi hi f in omega (arith, (p 0 x (omega arith)).1)
    | inr f ↦ hi_by_end xs (All-tail (λ (s : Strand). (s.span.lo ≤ from) × (from ≤ s.span.hi)) x xs p) f
  ]

  hi_by_begin : (xs : List Strand) → All (λ (s : Strand). from < s.span.lo) xs → list_any (λ (s : Strand). nat_eq s.span.lo (hi + 1)) xs ≡ true → from ≤ hi
  hi_by_begin [] p e = absurd (false≢true e)
  hi_by_begin (x ∷ xs) p e = elim (or_cases (nat_eq x.span.lo (hi + 1)) (list_any (λ (s : Strand). nat_eq s.span.lo (hi + 1)) xs) e) [
    | inl f ↦ let g : x.span.lo ≡ hi + 1 = eqb-true x.span.lo (hi + 1) f in omega (arith, p 0 x (omega arith))
    | inr f ↦ hi_by_begin xs (All-tail (λ (s : Strand). from < s.span.lo) x xs p) f
  ]

  pub hi_from : from ≤ hi
  hi_from = elim (or_cases (ends_at hi running) (list_any (λ (s : Strand). nat_eq s.span.lo (hi + 1)) rest) reached) [
    | inl e ↦ hi_by_end running v.runs e
    | inr e ↦ hi_by_begin rest ahead e
  ]

  hi_top : (xs : List Strand) → 0 < length xs → All (λ (s : Strand). hi ≤ s.span.hi) xs → hi ≤ TOP
  hi_top [] l p = absurd (omega arith)
  hi_top (x ∷ xs) l p = omega (arith, p 0 x (omega arith), x.span.within)

  pub hi_within : hi ≤ TOP
  hi_within = hi_top running some on

  pub covers : All (λ (s : Strand). (s.span.lo ≤ from) × (hi ≤ s.span.hi)) running
  covers = λ k d l. ((v.runs k d l).0, on k d l)

  holds : All (λ (s : Strand). (s.span.lo ≤ hi) × (hi ≤ s.span.hi)) running
  holds = λ k d l. (omega (arith, (v.runs k d l).0, hi_from), on k d l)

  -- what runs gives its names to each address of the row
  running_gives : (xs : List Strand) (a : ℕ) (y : End) → All (λ (s : Strand). (s.span.lo ≤ from) × (hi ≤ s.span.hi)) xs → from ≤ a → a ≤ hi → slides_give xs a y ≡ strands_give xs a y
  running_gives [] a y p l m = refl
  running_gives (x ∷ xs) a y p l m =
      let within = p 0 x (omega arith) in
      ap (λ b. (b && is_slid x.node x.slide a y) || slides_give xs a y) (sym (in_from x.span a (omega (arith, within.0)) (omega (arith, within.1))))
      ∙ ap (λ b. strand_gives x a y || b) (running_gives xs a y (All-tail (λ (s : Strand). (s.span.lo ≤ from) × (hi ≤ s.span.hi)) x xs p) l m)

  rest_none : (a : ℕ) (y : End) → a ≤ hi → strands_give rest a y ≡ false
  rest_none a y l = false_from_ne_true (strands_give rest a y) (λ e. let k : hi + 1 ≤ a = rest_from rest (hi + 1) a y (λ k d m. let b : hi < (get_or rest k d).span.lo = behind k d m in omega arith) e in omega arith)

  whole_from : (a : ℕ) (y : End) → from ≤ a → left from running rest a y ≡ true → whole a y ≡ true
  whole_from a y l e = sym (v.same a y) ∙ or_right (rows_give made a y) (left from running rest a y) e

  left_running : (a : ℕ) (y : End) → from ≤ a → strands_give running a y ≡ true → whole a y ≡ true
  left_running a y l e = whole_from a y l (and_from (leb from a) (strands_give running a y || strands_give rest a y) (le-leb from a l) (or_left (strands_give running a y) (strands_give rest a y) e))

  left_rest : (a : ℕ) (y : End) → from ≤ a → strands_give rest a y ≡ true → whole a y ≡ true
  left_rest a y l e = whole_from a y l (and_from (leb from a) (strands_give running a y || strands_give rest a y) (le-leb from a l) (or_right (strands_give running a y) (strands_give rest a y) e))

  -- where the row begins, what runs is all that is given
  given_first : (y : End) → whole from y ≡ slides_give running from y
  given_first y =
      sym (v.same from y)
      ∙ ap (λ b. b || left from running rest from y) (false_from_ne_true (rows_give made from y) (λ e. let k : from < from = rows_below whole 0 made from from y v.apart v.closed e in omega arith))
      ∙ ap (λ b. b && (strands_give running from y || strands_give rest from y)) (le-leb from from (omega arith))
      ∙ ap (λ b. strands_give running from y || b) (rest_none from y hi_from)
      ∙ or_false (strands_give running from y)
      ∙ sym (running_gives running from y covers (omega arith) hi_from)
    where
      or_false : (b : Bool) → (b || false) ≡ b
      or_false true = refl
      or_false false = refl

  -- behind it, something ends or begins
  breaks : ((y : End) → slides_give running (hi + 1) y ≡ whole (hi + 1) y) → ⊥
  breaks h = elim (or_cases (ends_at hi running) (list_any (λ (s : Strand). nat_eq s.span.lo (hi + 1)) rest) reached) [
    | inl e ↦ ended (last_one whole hi running v.running_maximal e)
    | inr e ↦ begun (first_one whole (hi + 1) rest v.rest_maximal e)
  ]
    where
      ended : (s : Strand) × (IsMaximal whole s × ((s.span.hi ≡ hi) × ((a : ℕ) (y : End) → is_slid s.node s.slide a y ≡ true → slides_give running a y ≡ true))) → ⊥
      ended w =
          let s = w.0 in
          let at : s.span.hi ≡ hi = w.1.1.0 in
          let y = name_of s (hi + 1) in
          let is : is_slid s.node s.slide (hi + 1) y ≡ true = name_slid s (hi + 1) (omega (arith, s.span.ordered)) in
          let none : whole (hi + 1) y ≡ false = w.1.0 (hi + 1) y is (inl (omega arith)) in
          let given : whole (hi + 1) y ≡ true = sym (h y) ∙ w.1.1.1 (hi + 1) y is in
          false≢true (sym none ∙ given)

      begun : (t : Strand) × (IsMaximal whole t × ((t.span.lo ≡ hi + 1) × ((a : ℕ) (y : End) → strand_gives t a y ≡ true → strands_give rest a y ≡ true))) → ⊥
      begun w =
          let t = w.0 in
          let at : t.span.lo ≡ hi + 1 = w.1.1.0 in
          let y = name_of t (hi + 1) in
          let is : is_slid t.node t.slide (hi + 1) y ≡ true = name_slid t (hi + 1) (omega arith) in
          let gives : strand_gives t (hi + 1) y ≡ true = and_from (in_span t.span (hi + 1)) (is_slid t.node t.slide (hi + 1) y) (in_from t.span (hi + 1) (omega arith) (omega (arith, t.span.ordered))) is in
          let given : whole (hi + 1) y ≡ true = left_rest (hi + 1) y (omega (arith, hi_from)) (w.1.1.1 (hi + 1) y gives) in
          let back = slid_back running hi y holds (h y ∙ given) in
          let z = back.0 in
          let node : t.node ≡ z.node = slid_node t.node t.slide (hi + 1) y is ∙ sym back.1.1.0 in
          let base : z.base + 1 ≡ y.base = back.1.1.1 in
          let sum : t.slide + (hi + 1) ≡ y.base + TOP = slid_base t.node t.slide (hi + 1) y is in
          let before : is_slid t.node t.slide hi z ≡ true = slid_from t.node t.slide hi z node (omega arith) in
          let none : whole hi z ≡ false = w.1.0 hi z before (inr (omega arith)) in
          false≢true (sym none ∙ left_running hi z hi_from back.1.0)

  filter_passes : (test : Strand → Bool) (xs : List Strand) → All (λ s. test s ≡ true) (filter test xs)
  filter_passes test [] = All-nil (λ s. test s ≡ true)
  filter_passes test (x ∷ xs) = go (test x) refl (filter_passes test xs)
    where
      go : (b : Bool) → test x ≡ b → All (λ s. test s ≡ true) (filter test xs) → All (λ s. test s ≡ true) (cond b (x ∷ filter test xs) (filter test xs))
      go true e p = All-cons (λ s. test s ≡ true) x (filter test xs) e p
      go false e p = p

  kept_gives : (xs : List Strand) (a : ℕ) (y : End) → hi < a → strands_give (filter (λ (s : Strand). leb (hi + 1) s.span.hi) xs) a y ≡ strands_give xs a y
  kept_gives [] a y l = refl
  kept_gives (x ∷ xs) a y l = elim (cases_lt x.span.hi (hi + 1)) [
    | inl k ↦
        ap (λ b. strands_give (cond b (x ∷ filter (λ (s : Strand). leb (hi + 1) s.span.hi) xs) (filter (λ (s : Strand). leb (hi + 1) s.span.hi) xs)) a y) (lt-leb (hi + 1) x.span.hi k)
        ∙ kept_gives xs a y l
        ∙ ap (λ b. (b && is_slid x.node x.slide a y) || strands_give xs a y) (sym (in_above x.span a (omega arith)))
    | inr k ↦
        ap (λ b. strands_give (cond b (x ∷ filter (λ (s : Strand). leb (hi + 1) s.span.hi) xs) (filter (λ (s : Strand). leb (hi + 1) s.span.hi) xs)) a y) (le-leb (hi + 1) x.span.hi k)
        ∙ ap (λ b. strand_gives x a y || b) (kept_gives xs a y l)
  ]

  module _ (r : Row) (lo_is : r.span.lo ≡ from) (hi_is : r.span.hi ≡ hi) (gives : (a : ℕ) (y : End) → from ≤ a → ends_give r.ends from a y ≡ slides_give running a y) (ascending : Ascending r.ends) (has : HasEnds r.ends) where
    row_ends : (a : ℕ) (y : End) → from ≤ a → ends_give r.ends r.span.lo a y ≡ slides_give running a y
    row_ends a y l = ap (λ n. ends_give r.ends n a y) lo_is ∙ gives a y l

    split : (a : ℕ) (y : End) → (row_gives r a y || left (hi + 1) (filter (λ (s : Strand). leb (hi + 1) s.span.hi) running) rest a y) ≡ left from running rest a y
    split a y = elim (cases_lt a from) [
      | inl l ↦ low (in_span r.span a) (ends_give r.ends r.span.lo a y) (leb (hi + 1) a) (strands_give (filter (λ (s : Strand). leb (hi + 1) s.span.hi) running) a y || strands_give rest a y) (leb from a) (strands_give running a y || strands_give rest a y) (in_below r.span a (omega (arith, lo_is))) (lt-leb (hi + 1) a (omega (arith, hi_from))) (lt-leb from a l)
      | inr l ↦ elim (cases_lt hi a) [
        | inl m ↦ high (in_span r.span a) (ends_give r.ends r.span.lo a y) (leb (hi + 1) a) (strands_give (filter (λ (s : Strand). leb (hi + 1) s.span.hi) running) a y) (strands_give rest a y) (leb from a) (strands_give running a y) (in_above r.span a (omega (arith, hi_is))) (le-leb (hi + 1) a (omega arith)) (le-leb from a l) (kept_gives running a y m)
        | inr m ↦ mid (in_span r.span a) (ends_give r.ends r.span.lo a y) (leb (hi + 1) a) (strands_give (filter (λ (s : Strand). leb (hi + 1) s.span.hi) running) a y || strands_give rest a y) (leb from a) (strands_give running a y) (strands_give rest a y) (in_from r.span a (omega (arith, lo_is)) (omega (arith, hi_is))) (lt-leb (hi + 1) a (omega arith)) (le-leb from a l) (row_ends a y l ∙ running_gives running a y covers l m) (rest_none a y m)
      ]
    ]
      where
        low : (i e b k f g : Bool) → i ≡ false → b ≡ false → f ≡ false → ((i && e) || (b && k)) ≡ (f && g)
        low i e b k f g u v w = rw (u, v, w)

        high : (i e b k t f g : Bool) → i ≡ false → b ≡ true → f ≡ true → k ≡ g → ((i && e) || (b && (k || t))) ≡ (f && (g || t))
        high i e b k t f g u v w z = rw (u, v, w, z)

        mid : (i e b k f g t : Bool) → i ≡ true → b ≡ false → f ≡ true → e ≡ g → t ≡ false → ((i && e) || (b && k)) ≡ (f && (g || t))
        mid i e b k f g t u v w z y = rw (u, v, w, z, y)

    grouped : (p q s : Bool) → ((p || (q || false)) || s) ≡ (p || (q || s))
    grouped true q s = refl
    grouped false true s = refl
    grouped false false s = refl

    pub row_pushed : Sweeping whole (made ++ r ∷ []) (hi + 1) (filter (λ (s : Strand). leb (hi + 1) s.span.hi) running) rest
    row_pushed = record {
      apart = apart_push whole 0 made r v.apart (subst (Closed whole made) (sym lo_is) v.closed) (omega arith) has ascending (λ y. ap (λ n. ends_give r.ends r.span.lo n y) lo_is ∙ row_ends from y (omega arith) ∙ sym (given_first y) ∙ ap (λ n. whole n y) (sym lo_is));
      closed = closed_push whole made r (hi + 1) (omega (arith, hi_is)) (λ e h. breaks (λ y. sym (row_ends (hi + 1) y (omega (arith, hi_from))) ∙ h y));
      within = omega (arith, hi_within);
      runs = λ k d l. (
        omega (arith, All-filter (λ (s : Strand). leb (hi + 1) s.span.hi) (λ (s : Strand). s.span.lo ≤ from) running (λ k d m. (v.runs k d m).0) k d l, hi_from),
        leb-true (hi + 1) (get_or (filter (λ (s : Strand). leb (hi + 1) s.span.hi) running) k d).span.hi (filter_passes (λ (s : Strand). leb (hi + 1) s.span.hi) running k d l),
      );
      later = λ k d l. let b : hi < (get_or rest k d).span.lo = behind k d l in omega arith;
      sorted = v.sorted;
      running_maximal = All-filter (λ (s : Strand). leb (hi + 1) s.span.hi) (IsMaximal whole) running v.running_maximal;
      rest_maximal = v.rest_maximal;
      same = λ a y.
          ap (λ b. b || left (hi + 1) (filter (λ (s : Strand). leb (hi + 1) s.span.hi) running) rest a y) (list_any-append (λ q. row_gives q a y) made (r ∷ []))
          ∙ grouped (rows_give made a y) (row_gives r a y) (left (hi + 1) (filter (λ (s : Strand). leb (hi + 1) s.span.hi) running) rest a y)
          ∙ ap (λ b. rows_give made a y || b) (split a y)
          ∙ v.same a y;
    }

pub sweep_ended : (whole : ℕ → End → Bool) (made : List Row) (from : ℕ) → Sweeping whole made from [] [] → (a : ℕ) (y : End) → rows_give made a y ≡ whole a y
sweep_ended whole made from v a y = sym (go (rows_give made a y) (leb from a)) ∙ v.same a y
  where
    go : (p q : Bool) → (p || (q && (false || false))) ≡ p
    go true q = refl
    go false true = refl
    go false false = refl

-- one turn of the sweep, up to what runs in the next row

pub record Turn (whole : ℕ → End → Bool) (made : List Row) (from : ℕ) (running rest : List Strand) : Type 0 where
  pub state : Sweeping whole made from running rest
  pub some : 0 < length running
  pub ahead : All (λ (s : Strand). from < s.span.lo) rest

module _ (to n : ℕ) (run rest xs later : List Strand) (runs_are : xs ≡ run ++ take n rest) (later_are : later ≡ drop n rest) where
  turn_state : (whole : ℕ → End → Bool) (made : List Row) (from : ℕ) (was : List Strand) → Sweeping whole made from run rest → was ≡ run → 0 < length was + length rest → (0 < length was → to ≡ from) → ((d : Strand) → length was ≡ 0 → (get_or rest 0 d).span.lo ≡ to) → from ≤ to → All (λ (s : Strand). to ≤ s.span.lo) rest → All (λ (s : Strand). s.span.lo ≡ to) (take n rest) → Sweeping whole made to xs later
  turn_state whole made from was v same some on begins l p q =
      subst (λ t. Sweeping whole made to t later) (sym runs_are)
      (subst (λ t. Sweeping whole made to (run ++ take n rest) t) (sym later_are)
      (running_more whole made to run rest n
      (advanced whole made from to run rest v (subst (λ t. 0 < length t + length rest) same some) (subst (λ t. 0 < length t → to ≡ from) same on) (subst (λ t. (d : Strand) → length t ≡ 0 → (get_or rest 0 d).span.lo ≡ to) same begins) l p) q))

  turn_some : (was : List Strand) → was ≡ run → 0 < length was + length rest → ((d : Strand) → length was ≡ 0 → (get_or rest 0 d).span.lo ≡ to) → All (λ (s : Strand). to < s.span.lo) (drop n rest) → 0 < length xs
  turn_some was same some begins p = subst (λ t. 0 < length t) (sym runs_are) (go run rest n (subst (λ t. 0 < length t + length rest) same some) (subst (λ t. (d : Strand) → length t ≡ 0 → (get_or rest 0 d).span.lo ≡ to) same begins) p)
    where
      go : (run rest : List Strand) (n : ℕ) → 0 < length run + length rest → ((d : Strand) → length run ≡ 0 → (get_or rest 0 d).span.lo ≡ to) → All (λ (s : Strand). to < s.span.lo) (drop n rest) → 0 < length (run ++ take n rest)
      go (x ∷ xs) rest n some begins p = omega arith
      go [] [] n some begins p = absurd (omega arith)
      go [] (t ∷ ts) zero some begins p = let e : t.span.lo ≡ to = begins t refl in absurd (omega (arith, p 0 t (omega arith)))
      go [] (t ∷ ts) (suc n) some begins p = omega arith

  pub turn_is : (whole : ℕ → End → Bool) (made : List Row) (from : ℕ) (was : List Strand) → Sweeping whole made from run rest → was ≡ run → 0 < length was + length rest → (0 < length was → to ≡ from) → ((d : Strand) → length was ≡ 0 → (get_or rest 0 d).span.lo ≡ to) → from ≤ to → All (λ (s : Strand). to ≤ s.span.lo) rest → All (λ (s : Strand). s.span.lo ≡ to) (take n rest) → All (λ (s : Strand). to < s.span.lo) (drop n rest) → Turn whole made to xs later
  turn_is whole made from was v same some on begins l p q b = record {
    state = turn_state whole made from was v same some on begins l p q;
    some = turn_some was same some begins b;
    ahead = subst (All (λ (s : Strand). to < s.span.lo)) (sym later_are) b;
  }
