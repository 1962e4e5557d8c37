-- The rows of a node that give what hops want: those made for a buffer, those of the levels of its stops, and those of a lone level.
use Rattle.std.proofs.Common.{◌≡◌, ℕ, zero, suc, ◌+◌, ◌-◌, ◌<◌, ◌≤◌, ◌⊎◌, inl, inr, Bool, true, false, ◌&&◌, ◌||◌, nat_lt, nat_le, List, [], ◌∷◌, length, map, get_or, slice_get, Option, Some, None, refl, sym, ap, ◌∙◌, subst, arith, IsTrue, lt-ltb, ltb-true, leb-true}
use Rattle.std.specs.List.{AllWithin, list_all}
use Rattle.std.proofs.lemmas.Bool.{false≢true, cases_lt, and_parts, and_from, or_cases, or_left, or_right, le-leb}
use Rattle.dn_interval.specs.declared.row.End.{End}
use Rattle.dn_interval.specs.declared.row.Row.{Row}
use Rattle.dn_interval.specs.declared.row.Seg.{Seg}
use Rattle.dn_interval.specs.declared.span.TheConstants.{TOP}
use Rattle.dn_interval.specs.Rows.{Member, further_end, Apart, AreNormal, GivenBy, HasEnds, SegmentsGive}
use Rattle.dn_interval.specs.Strands.{rows_give, segs_give}
use Rattle.dn_interval.proofs.Membership.{in_from, lo_of, hi_of}
use Rattle.dn_interval.proofs.Names.{rows_from, rows_to, segs_from, segs_to}
use Rattle.dn_interval.proofs.Normal.{normal_like}
use Rattle.dn_net.specs.declared.node.NodeDecl.{NodeDecl}
use Rattle.dn_flat.specs.declared.levels.Levels.{Levels}
use Rattle.dn_flat.specs.Levels.{IsLevels, ResolvesWhole, levels_give}
use Rattle.dn_flat.specs.Views.{ResolvesFrom, StopsFrom}
use Rattle.dn_tables.specs.declared.placement.Hop.{Hop}
use Rattle.dn_placement.specs.declared.request.Request.{Request}
use Rattle.dn_walk.specs.Ends.{end_of, name_of_end}
use Rattle.dn_view.specs.Near.{levels_near}
use Rattle.dn_view.proofs.Nearby.{levels_from, levels_to}
use Rattle.dn_place.specs.Rows.{AreToward, GivesNone, IsClear, is_past, wanted_name}
use Rattle.dn_place.specs.Sought.{ReachOneStop}

-- where no hop follows

buffer_is : (net : List NodeDecl) (rq : Request) (hops : List Hop) (node : ℕ) (rows : List Row) → length hops ≡ 0 → AreNormal (ResolvesWhole net node (wanted_name rq hops) rq.size) rows → AreToward net rq hops node rows
buffer_is net rq (hop ∷ hops) node rows none n = absurd (omega arith)
buffer_is net rq [] node rows none n = record {
  apart = n.apart;
  given = λ a z l g. let w = (n.exact a z l).1 g in subst (λ b. ResolvesFrom net node b z) (sym w.from) ((w.each w.i z w.below).1 (sym w.to));
  all = λ a i z l m g r.
      let w = (n.exact a (further_end i t) l).1 g in
      subst (λ (y : End). GivenBy rows a y) (w.to ∙ (w.each w.i z w.below).0 (subst (λ b. ResolvesFrom net node b z) w.from r)) g;
  whole = λ a fits only i m. (n.exact (a + i) (further_end i t) (omega arith)).0 (record { v = a; i = i; below = m; within = fits; from = refl; to = refl; each = only });
}
  where
    t : End
    t = wanted_name rq []

pub buffer_toward : (net : List NodeDecl) (rq : Request) (hops : List Hop) (node : ℕ) (rows : List Row) (t : End) (size : ℕ) → length hops ≡ 0 → t ≡ wanted_name rq hops → size ≡ rq.size → AreNormal (ResolvesWhole net node t size) rows → AreToward net rq hops node rows
buffer_toward net rq hops node rows t size none e f n = buffer_is net rq hops node rows none (subst (λ m. AreNormal (ResolvesWhole net node (wanted_name rq hops) m) rows) f (subst (λ (w : End). AreNormal (ResolvesWhole net node w size) rows) e n))

-- the buffer itself is wanted there, and ends by the last address
pub wanted_fits : (rq : Request) (hops : List Hop) (t : End) (size : ℕ) → length hops ≡ 0 → t ≡ wanted_name rq hops → size ≡ rq.size → rq.base + rq.size ≤ TOP + 1 → t.base + size ≤ TOP + 1
wanted_fits rq (hop ∷ hops) t size none e f fits = absurd (omega arith)
wanted_fits rq [] t size none e f fits = let base : t.base ≡ rq.base = ap (λ (w : End). w.base) e in omega arith

-- where one does: no address has two stops

same_stop : (net : List NodeDecl) → ReachOneStop net → (node a : ℕ) (y z : End) → StopsFrom net node a y → StopsFrom net node a z → y ≡ z
same_stop net one node a y z f g = ap end_of (one (record { node = node; addr = a }) (name_of_end y) (name_of_end z) f g)

-- a lone level has all stops
pub lone_toward : (net : List NodeDecl) (rq : Request) (hops : List Hop) (node : ℕ) (levels : Levels) (rows : List Row) → 1 ≤ length hops → IsLevels net node levels → levels.stops ≡ rows ∷ [] → Apart 0 rows → AreToward net rq hops node rows
lone_toward net rq [] node levels rows some is lone apart = absurd (omega arith)
lone_toward net rq (hop ∷ hops) node levels rows some is lone apart = record {
  apart = apart;
  given = λ a z l g. (exact a z l).1 g;
  all = λ a i z l m g r. (exact a z l).0 r;
  whole = λ a fits only i m. (exact (a + i) (further_end i (wanted_name rq (hop ∷ hops))) (omega arith)).0 ((only i (further_end i (wanted_name rq (hop ∷ hops))) m).1 refl);
}
  where
    or_false : (b : Bool) → (b || false) ≡ true → b ≡ true
    or_false true e = refl
    or_false false e = e

    exact : (a : ℕ) (z : End) → a ≤ TOP → (StopsFrom net node a z → GivenBy rows a z) × (GivenBy rows a z → StopsFrom net node a z)
    exact a z l =
        let all = is.stops a z l in (
          (λ r. rows_to rows a z (or_false (rows_give rows a z) (subst (λ (ls : List (List Row)). levels_give ls a z ≡ true) lone (all.1 r)))),
          (λ g. all.0 (subst (λ (ls : List (List Row)). levels_give ls a z ≡ true) (sym lone) (or_left (rows_give rows a z) false (rows_from rows a z g)))),
        )

-- the near rows of the levels give stops, and each that is wanted

near_is : (net : List NodeDecl) (rq : Request) (hops : List Hop) (node : ℕ) (levels : Levels) (rows : List Row) → 1 ≤ length hops → ReachOneStop net → IsLevels net node levels → AreNormal (λ a z. IsTrue (levels_near (wanted_name rq hops) rq.size levels.stops a z)) rows → AreToward net rq hops node rows
near_is net rq [] node levels rows some one is n = absurd (omega arith)
near_is net rq (hop ∷ hops) node levels rows some one is n = record {
  apart = n.apart;
  given = given;
  all = λ a i z l m g r. subst (λ (w : End). GivenBy rows a w) (same_stop net one node a (further_end i t) z (given a (further_end i t) l g) r) g;
  whole = λ a fits only i m. let low : a + i ≤ TOP = omega arith in (n.exact (a + i) (further_end i t) low).0 (levels_from t rq.size levels.stops (a + i) i m ((is.stops (a + i) (further_end i t) low).1 ((only i (further_end i t) m).1 refl)));
}
  where
    t : End
    t = wanted_name rq (hop ∷ hops)

    given : (a : ℕ) (z : End) → a ≤ TOP → GivenBy rows a z → StopsFrom net node a z
    given a z l g = (is.stops a z l).0 (levels_to t rq.size levels.stops a z ((n.exact a z l).1 g))

pub near_toward : (net : List NodeDecl) (rq : Request) (hops : List Hop) (node : ℕ) (levels : Levels) (rows : List Row) (t : End) (size : ℕ) (layers : List (List Row)) → 1 ≤ length hops → ReachOneStop net → IsLevels net node levels → t ≡ wanted_name rq hops → size ≡ rq.size → layers ≡ levels.stops → AreNormal (λ a z. IsTrue (levels_near t size layers a z)) rows → AreToward net rq hops node rows
near_toward net rq hops node levels rows t size layers some one is e f g n =
    near_is net rq hops node levels rows some one is
    (subst (λ (ls : List (List Row)). AreNormal (λ a z. IsTrue (levels_near (wanted_name rq hops) rq.size ls a z)) rows) g
    (subst (λ m. AreNormal (λ a z. IsTrue (levels_near (wanted_name rq hops) m layers a z)) rows) f
    (subst (λ (w : End). AreNormal (λ a z. IsTrue (levels_near w size layers a z)) rows) e n)))

-- the segments that were found are the near rows
pub near_found : (t : End) (size : ℕ) (levels : List (List Row)) (segs : List Seg) (rows : List Row) → ((a : ℕ) (z : End) → segs_give segs a z ≡ levels_near t size levels a z) → AreNormal (SegmentsGive segs) rows → AreNormal (λ a z. IsTrue (levels_near t size levels a z)) rows
near_found t size levels segs rows same n =
    normal_like (SegmentsGive segs) (λ a z. IsTrue (levels_near t size levels a z)) rows (λ a z l. ((λ m. sym (same a z) ∙ segs_from segs a z m), (λ e. segs_to segs a z (same a z ∙ e)))) n

-- rows that have no address of a stretch give it nothing

pub past_none : (rows : List Row) (a size : ℕ) → list_all (is_past a size) rows ≡ true → GivesNone (rows_give rows) a size
past_none rows a size p = λ i l z e. go rows i z p l (rows_to rows (a + i) z e)
  where
    go : (rows : List Row) (i : ℕ) (z : End) → list_all (is_past a size) rows ≡ true → i < size → GivenBy rows (a + i) z → ⊥
    go [] i z p l g = g
    go (r ∷ rows) i z p l (inl g) = by (or_cases (nat_lt r.span.hi a) (nat_le (a + size) r.span.lo) (and_parts (is_past a size r) (list_all (is_past a size) rows) p).0)
      where
        by : (nat_lt r.span.hi a ≡ true) ⊎ (nat_le (a + size) r.span.lo ≡ true) → ⊥
        by (inl e) = omega (arith, ltb-true r.span.hi a e, hi_of r.span (a + i) g.0)
        by (inr e) = omega (arith, leb-true (a + size) r.span.lo e, lo_of r.span (a + i) g.0)
    go (r ∷ rows) i z p l (inr g) = go rows i z (and_parts (is_past a size r) (list_all (is_past a size) rows) p).1 l g

-- and those that give it nothing have no address of it

past_all : (from : ℕ) (rows : List Row) (a size : ℕ) → Apart from rows → 1 ≤ size → ((i : ℕ) → i < size → (z : End) → GivenBy rows (a + i) z → ⊥) → list_all (is_past a size) rows ≡ true
past_all from [] a size p some f = refl
past_all from (r ∷ rest) a size p some f = and_from (is_past a size r) (list_all (is_past a size) rest) (here (cases_lt r.span.hi a) (cases_lt r.span.lo (a + size))) (past_all (suc r.span.hi) rest a size p.4 some (λ i l z g. f i l z (inr g)))
  where
    given : (es : List End) → HasEnds es → (d : ℕ) → (z : End) × Member z (map (further_end d) es)
    given [] h d = absurd h
    given (e ∷ es) h d = (further_end d e, inl refl)

    meets : (i : ℕ) → i < size → r.span.lo ≤ a + i → a + i ≤ r.span.hi → ⊥
    meets i l b h = let w = given r.ends p.1 (a + i - r.span.lo) in f i l w.0 (inl (in_from r.span (a + i) b h, w.1))

    start : (r.span.lo < a) ⊎ (a ≤ r.span.lo) → a ≤ r.span.hi → r.span.lo < a + size → ⊥
    start (inl b) h k = meets 0 some (omega arith) (omega arith)
    start (inr b) h k = let o : r.span.lo ≤ r.span.hi = r.span.ordered in meets (r.span.lo - a) (omega arith) (omega arith) (omega arith)

    here : (r.span.hi < a) ⊎ (a ≤ r.span.hi) → (r.span.lo < a + size) ⊎ (a + size ≤ r.span.lo) → is_past a size r ≡ true
    here (inl h) k = or_left (nat_lt r.span.hi a) (nat_le (a + size) r.span.lo) (lt-ltb r.span.hi a h)
    here (inr h) (inr k) = or_right (nat_lt r.span.hi a) (nat_le (a + size) r.span.lo) (le-leb (a + size) r.span.lo k)
    here (inr h) (inl k) = absurd (start (cases_lt r.span.lo a) h k)

pub past_some : (rows : List Row) (a size : ℕ) → Apart 0 rows → 1 ≤ size → list_all (is_past a size) rows ≡ false → GivesNone (rows_give rows) a size → ⊥
past_some rows a size apart some e none = false≢true (sym e ∙ past_all 0 rows a size apart some (λ i l z g. none i l z (rows_from rows (a + i) z g)))

-- of rows that stand apart, the first that does not end before a stretch tells it

abbrev pub begins_past : ℕ → ℕ → Option Row → Bool
begins_past a size None = true
begins_past a size (Some r) = nat_le (a + size) r.span.lo

above_past : (from : ℕ) (rows : List Row) (a size : ℕ) → Apart from rows → a + size ≤ from → list_all (is_past a size) rows ≡ true
above_past from [] a size p l = refl
above_past from (r ∷ rows) a size p l = and_from (is_past a size r) (list_all (is_past a size) rows)
    (or_right (nat_lt r.span.hi a) (nat_le (a + size) r.span.lo) (le-leb (a + size) r.span.lo (omega (arith, p.0, l))))
    (above_past (suc r.span.hi) rows a size p.4 (omega (arith, p.0, l, r.span.ordered)))

pub past_from : (from : ℕ) (rows : List Row) (i a size : ℕ) → Apart from rows → AllWithin (λ (r : Row). r.span.hi < a) rows 0 i → AllWithin (λ (r : Row). a ≤ r.span.hi) rows i (length rows) → list_all (is_past a size) rows ≡ begins_past a size (slice_get rows i)
past_from from [] i a size p f b = refl
past_from from (r ∷ rows) zero a size p f b = by (nat_lt r.span.hi a) refl (nat_le (a + size) r.span.lo) refl
  where
    ends : a ≤ r.span.hi
    ends = b 0 r (omega arith) (omega arith)

    by : (e : Bool) → nat_lt r.span.hi a ≡ e → (t : Bool) → nat_le (a + size) r.span.lo ≡ t → (is_past a size r && list_all (is_past a size) rows) ≡ nat_le (a + size) r.span.lo
    by true g t h = absurd (let l = ltb-true r.span.hi a g in omega (arith, l, ends))
    by false g false h = ap (λ w. (w || nat_le (a + size) r.span.lo) && list_all (is_past a size) rows) g ∙ ap (λ w. w && list_all (is_past a size) rows) h ∙ sym h
    by false g true h =
        let low = leb-true (a + size) r.span.lo h in
        ap (λ w. (w || nat_le (a + size) r.span.lo) && list_all (is_past a size) rows) g ∙ ap (λ w. w && list_all (is_past a size) rows) h ∙ above_past (suc r.span.hi) rows a size p.4 (omega (arith, low, r.span.ordered)) ∙ sym h
past_from from (r ∷ rows) (suc i) a size p f b =
    ap (λ w. (w || nat_le (a + size) r.span.lo) && list_all (is_past a size) rows) (lt-ltb r.span.hi a (f 0 r (omega arith) (omega arith)))
    ∙ past_from (suc r.span.hi) rows i a size p.4 (λ k d u v. f (suc k) d (omega arith) (omega (arith, v))) (λ k d u v. b (suc k) d (omega (arith, u)) (omega (arith, v)))

-- levels, one after another

pub lone_level : (levels : List (List Row)) (rows : List Row) → 1 ≤ length levels → length levels < 2 → rows ≡ get_or levels 0 rows → levels ≡ rows ∷ []
lone_level [] rows l h e = absurd (omega arith)
lone_level (r ∷ []) rows l h e = ap (λ (rs : List Row). rs ∷ []) (sym e)
lone_level (r ∷ s ∷ more) rows l h e = absurd (omega arith)

pub level_gives : (rows : List Row) (rest : List (List Row)) (a : ℕ) (z : End) → GivenBy rows a z → levels_give (rows ∷ rest) a z ≡ true
level_gives rows rest a z g = or_left (rows_give rows a z) (levels_give rest a z) (rows_from rows a z g)

pub level_passed : (rows : List Row) (rest : List (List Row)) (a : ℕ) (z : End) → (GivenBy rows a z → ⊥) → levels_give (rows ∷ rest) a z ≡ levels_give rest a z
level_passed rows rest a z none = go (rows_give rows a z) refl
  where
    go : (b : Bool) → rows_give rows a z ≡ b → (b || levels_give rest a z) ≡ levels_give rest a z
    go true e = absurd (none (rows_to rows a z e))
    go false e = refl

pub none_left : (a size : ℕ) → GivesNone (levels_give []) a size
none_left a size = λ i l z e. false≢true e

pub none_more : (rows : List Row) (levels : List (List Row)) (a size : ℕ) → GivesNone (rows_give rows) a size → GivesNone (levels_give levels) a size → GivesNone (levels_give (rows ∷ levels)) a size
none_more rows levels a size f g = λ i l z e. elim (or_cases (rows_give rows (a + i) z) (levels_give levels (a + i) z) e) [
  | inl h ↦ f i l z h
  | inr h ↦ g i l z h
]

pub none_one : (rows : List Row) (levels : List (List Row)) (a size : ℕ) → GivesNone (levels_give (rows ∷ levels)) a size → GivesNone (rows_give rows) a size
none_one rows levels a size f = λ i l z e. f i l z (or_left (rows_give rows (a + i) z) (levels_give levels (a + i) z) e)

pub none_rest : (rows : List Row) (levels : List (List Row)) (a size : ℕ) → GivesNone (levels_give (rows ∷ levels)) a size → GivesNone (levels_give levels) a size
none_rest rows levels a size f = λ i l z e. f i l z (or_right (rows_give rows (a + i) z) (levels_give levels (a + i) z) e)

-- so a stretch of a node is clear exactly where the levels of its stops give it nothing

pub clear_from : (net : List NodeDecl) (node a size : ℕ) (levels : Levels) → IsLevels net node levels → a + size ≤ TOP + 1 → GivesNone (levels_give levels.stops) a size → IsClear net node [] a size
clear_from net node a size levels is fits none = λ i l z x. none i l z ((is.stops (a + i) z (omega arith)).1 x)

pub clear_to : (net : List NodeDecl) (node a size : ℕ) (levels : Levels) → IsLevels net node levels → a + size ≤ TOP + 1 → IsClear net node [] a size → GivesNone (levels_give levels.stops) a size
clear_to net node a size levels is fits clear = λ i l z e. clear i l z ((is.stops (a + i) z (omega arith)).0 e)
