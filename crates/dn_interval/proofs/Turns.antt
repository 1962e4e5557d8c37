-- Rows of segments that stand one behind another, made segment after segment.
use Rattle.std.proofs.Common.{◌≡◌, ℕ, suc, ◌+◌, ◌-◌, ◌≤◌, Bool, true, false, ◌&&◌, ◌||◌, nat_le, nat_eq, List, [], ◌∷◌, ◌++◌, refl, sym, ap, ◌∙◌, subst, arith, leb-true, eqb-true, eq-eqb}
use Rattle.std.proofs.lemmas.Bool.{and_parts, and_from, false≢true}
use Rattle.std.proofs.lemmas.List.Folds.{list_any-append}
use Rattle.dn_interval.specs.declared.row.End.{End}
use Rattle.dn_interval.specs.declared.row.Row.{Row}
use Rattle.dn_interval.specs.declared.row.Seg.{Seg}
use Rattle.dn_interval.specs.Rows.{further_end, Ascending, HasEnds, Parted, Apart}
use Rattle.dn_interval.specs.Runs.{is_in_turn, does_go_on, row_of}
use Rattle.dn_interval.specs.Strands.{seg_gives, segs_give, row_gives, rows_give}

-- the row that is put last, once it is longer

parted_last : (q : Row) (rows : List Row) (r s : Row) → s.span.lo ≡ r.span.lo → s.ends ≡ r.ends → Parted q (rows ++ r ∷ []) → Parted q (rows ++ s ∷ [])
parted_last q [] r s lo ends p = λ e f. p (sym lo ∙ e) (sym ends ∙ f)
parted_last q (t ∷ rows) r s lo ends p = p

last_longer : (from : ℕ) (rows : List Row) (r s : Row) → s.span.lo ≡ r.span.lo → s.ends ≡ r.ends → Apart from (rows ++ r ∷ []) → Apart from (rows ++ s ∷ [])
last_longer from [] r s lo ends p = (subst (λ n. from ≤ n) (sym lo) p.0, subst HasEnds (sym ends) p.1, subst Ascending (sym ends) p.2, tt, tt)
last_longer from (q ∷ rows) r s lo ends p = (p.0, p.1, p.2, parted_last q rows r s lo ends p.3, last_longer (suc q.span.hi) rows r s lo ends p.4)

-- one row more behind it

parted_more : (q : Row) (rows : List Row) (r s : Row) → Parted q (rows ++ r ∷ []) → Parted q ((rows ++ r ∷ []) ++ s ∷ [])
parted_more q [] r s p = p
parted_more q (t ∷ rows) r s p = p

last_more : (from : ℕ) (rows : List Row) (r s : Row) → Apart from (rows ++ r ∷ []) → suc r.span.hi ≤ s.span.lo → HasEnds s.ends → Ascending s.ends → Parted r (s ∷ []) → Apart from ((rows ++ r ∷ []) ++ s ∷ [])
last_more from [] r s p l some up parted = (p.0, p.1, p.2, parted, (l, some, up, tt, tt))
last_more from (q ∷ rows) r s p l some up parted = (p.0, p.1, p.2, parted_more q rows r s p.3, last_more (suc q.span.hi) rows r s p.4 l some up parted)

-- what a segment gives is what its row gives
row_same : (s : Seg) (a : ℕ) (y : End) → row_gives (row_of s) a y ≡ seg_gives s a y
row_same s a y = go (nat_le s.span.lo a && nat_le a s.span.hi) (nat_eq s.node y.node && nat_eq (s.base + (a - s.span.lo)) y.base)
  where
    go : (p q : Bool) → (p && (q || false)) ≡ (p && q)
    go true true = refl
    go true false = refl
    go false q = refl

-- the rows so far, a current segment, and the segments that are still to come
pub record Turning (rows : List Row) (current : Seg) (rest segs : List Seg) : Type 0 where
  pub apart : Apart 0 (rows ++ row_of current ∷ [])
  pub later : is_in_turn (current.span.hi + 1) rest ≡ true
  pub same : (a : ℕ) (y : End) → (rows_give rows a y || (seg_gives current a y || segs_give rest a y)) ≡ segs_give segs a y

pub turn_begun : (s : Seg) (rest segs : List Seg) → segs ≡ s ∷ rest → is_in_turn 0 segs ≡ true → Turning [] s rest segs
turn_begun s rest segs e turn =
    let p = and_parts (nat_le 0 s.span.lo) (is_in_turn (s.span.hi + 1) rest) (sym (ap (is_in_turn 0) e) ∙ turn) in
    record {
      apart = (omega arith, tt, (tt, tt), tt, tt);
      later = p.1;
      same = λ a y. ap (λ t. segs_give t a y) (sym e);
    }

-- what going on means
record GoesOn (s t : Seg) : Type 0 where
  lo : t.span.lo ≡ s.span.hi + 1
  node : t.node ≡ s.node
  base : t.base ≡ s.base + ((s.span.hi + 1) - s.span.lo)

on_means : (s t : Seg) → does_go_on s t ≡ true → GoesOn s t
on_means s t e =
    let p = and_parts (nat_eq t.span.lo (s.span.hi + 1)) (nat_eq t.node s.node && nat_eq t.base (s.base + ((s.span.hi + 1) - s.span.lo))) e in
    let q = and_parts (nat_eq t.node s.node) (nat_eq t.base (s.base + ((s.span.hi + 1) - s.span.lo))) p.1 in
    record { lo = eqb-true t.span.lo (s.span.hi + 1) p.0; node = eqb-true t.node s.node q.0; base = eqb-true t.base (s.base + ((s.span.hi + 1) - s.span.lo)) q.1 }

module _ (rows : List Row) (s t : Seg) (rest segs : List Seg) (state : Turning rows s (t ∷ rest) segs) where
  behind : (s.span.hi + 1 ≤ t.span.lo) × (is_in_turn (t.span.hi + 1) rest ≡ true)
  behind = let p = and_parts (nat_le (s.span.hi + 1) t.span.lo) (is_in_turn (t.span.hi + 1) rest) state.later in (leb-true (s.span.hi + 1) t.span.lo p.0, p.1)

  -- the next segment goes on
  pub turn_longer : (u : Seg) → u.span.lo ≡ s.span.lo → u.span.hi ≡ t.span.hi → u.node ≡ s.node → u.base ≡ s.base → ((a : ℕ) (y : End) → seg_gives u a y ≡ (seg_gives s a y || seg_gives t a y)) → Turning rows u rest segs
  turn_longer u lo hi node base gives = record {
    apart = last_longer 0 rows (row_of s) (row_of u) lo (ends node base) state.apart;
    later = subst (λ n. is_in_turn (n + 1) rest ≡ true) (sym hi) behind.1;
    same = λ a y. ap (λ g. rows_give rows a y || (g || segs_give rest a y)) (gives a y) ∙ go (rows_give rows a y) (seg_gives s a y) (seg_gives t a y) (segs_give rest a y) ∙ state.same a y;
  }
    where
      ends : {m n b c : ℕ} → m ≡ n → b ≡ c → ◌≡◌ {A = List End} (record { node = m; base = b } ∷ []) (record { node = n; base = c } ∷ [])
      ends e f = λ i. record { node = e i; base = f i } ∷ []

      go : (r p q l : Bool) → (r || ((p || q) || l)) ≡ (r || (p || (q || l)))
      go true p q l = refl
      go false true q l = refl
      go false false q l = refl

  -- it does not, and takes the place of the current one
  pub turn_apart : does_go_on s t ≡ false → Turning (rows ++ row_of s ∷ []) t rest segs
  turn_apart off = record {
    apart = last_more 0 rows (row_of s) (row_of t) state.apart (let l : s.span.hi + 1 ≤ t.span.lo = behind.0 in omega arith) tt (tt, tt) parted;
    later = behind.1;
    same = λ a y. ap (λ g. g || (seg_gives t a y || segs_give rest a y)) (list_any-append (λ r. row_gives r a y) rows (row_of s ∷ []) ∙ ap (λ g. rows_give rows a y || (g || false)) (row_same s a y)) ∙ go (rows_give rows a y) (seg_gives s a y) (seg_gives t a y || segs_give rest a y) ∙ state.same a y;
  }
    where
      go : (r p l : Bool) → ((r || (p || false)) || l) ≡ (r || (p || l))
      go true p l = refl
      go false true l = refl
      go false false l = refl

      head : {x y : End} → x ∷ [] ≡ y ∷ [] → x ≡ y
      head e = cc

      parted : Parted (row_of s) (row_of t ∷ [])
      parted lo ends =
          let e : ◌≡◌ {A = End} (record { node = t.node; base = t.base }) (further_end (suc s.span.hi - s.span.lo) (record { node = s.node; base = s.base })) = head ends in
          let n : suc s.span.hi ≡ s.span.hi + 1 = omega arith in
          let l : t.span.lo ≡ s.span.hi + 1 = lo ∙ n in
          let b : t.base ≡ s.base + ((s.span.hi + 1) - s.span.lo) = ap (λ x. x.base) e ∙ ap (λ k. s.base + (k - s.span.lo)) n in
          false≢true (sym off ∙ and_from (nat_eq t.span.lo (s.span.hi + 1)) (nat_eq t.node s.node && nat_eq t.base (s.base + ((s.span.hi + 1) - s.span.lo))) (eq-eqb t.span.lo (s.span.hi + 1) l) (and_from (nat_eq t.node s.node) (nat_eq t.base (s.base + ((s.span.hi + 1) - s.span.lo))) (eq-eqb t.node s.node (ap (λ x. x.node) e)) (eq-eqb t.base (s.base + ((s.span.hi + 1) - s.span.lo)) b)))

-- the current segment is the last
pub turn_ended : (rows : List Row) (s : Seg) (segs : List Seg) → Turning rows s [] segs → (a : ℕ) (y : End) → rows_give (rows ++ row_of s ∷ []) a y ≡ segs_give segs a y
turn_ended rows s segs state a y = list_any-append (λ r. row_gives r a y) rows (row_of s ∷ []) ∙ ap (λ g. rows_give rows a y || (g || false)) (row_same s a y) ∙ state.same a y
