-- A function from addresses to sets of names has at most one list of normal rows.
use Rattle.std.proofs.Common.{◌≡◌, ℕ, suc, ◌+◌, ◌-◌, ◌<◌, ◌≤◌, ◌⊎◌, ◌↔◌, inl, inr, Bool, true, false, ◌&&◌, ◌||◌, nat_lt, nat_eq, List, [], ◌∷◌, map, refl, sym, ap, ◌∙◌, subst, arith, IsTrue, eqb-true, ltb-true, lt-ltb, eq-eqb}
use Rattle.std.proofs.lemmas.Bool.{cases_lt}
use Rattle.dn_interval.specs.declared.row.End.{End}
use Rattle.dn_interval.specs.declared.row.Row.{Row}
use Rattle.dn_interval.specs.declared.span.TheConstants.{TOP}
use Rattle.dn_interval.specs.Rows.{Member, further_end, end_lt, AllAbove, Ascending, HasEnds, Apart, GivenBy, AreNormal, OneListOfRows}
use Rattle.dn_interval.proofs.Membership.{in_from, lo_of, hi_of, same_span}

lt_means : (x y : End) → IsTrue (end_lt x y) → (x.node < y.node) ⊎ ((x.node ≡ y.node) × (x.base < y.base))
lt_means x y e = go (nat_lt x.node y.node) (nat_eq x.node y.node) (nat_lt x.base y.base) refl refl refl e
  where
    go : (a b c : Bool) → nat_lt x.node y.node ≡ a → nat_eq x.node y.node ≡ b → nat_lt x.base y.base ≡ c → IsTrue (a || (b && c)) → (x.node < y.node) ⊎ ((x.node ≡ y.node) × (x.base < y.base))
    go true b c p q r e = inl (ltb-true x.node y.node p)
    go false true true p q r e = inr (eqb-true x.node y.node q, ltb-true x.base y.base r)
    go false true false p q r e = cc
    go false false c p q r e = cc

asym : (x y : End) → IsTrue (end_lt x y) → IsTrue (end_lt y x) → ⊥
asym x y e f = go (lt_means x y e) (lt_means y x f)
  where
    go : (x.node < y.node) ⊎ ((x.node ≡ y.node) × (x.base < y.base)) → (y.node < x.node) ⊎ ((y.node ≡ x.node) × (y.base < x.base)) → ⊥
    go (inl a) (inl b) = omega arith
    go (inl a) (inr b) = let c : y.node ≡ x.node = b.0 in omega arith
    go (inr a) (inl b) = let c : x.node ≡ y.node = a.0 in omega arith
    go (inr a) (inr b) = let c : x.base < y.base = a.1 in let d : y.base < x.base = b.1 in omega arith

above_member : (x : End) (ys : List End) (z : End) → AllAbove x ys → Member z ys → IsTrue (end_lt x z)
above_member x [] z a m = absurd m
above_member x (y ∷ ys) z a (inl e) = subst (λ w. IsTrue (end_lt x w)) e a.0
above_member x (y ∷ ys) z a (inr m) = above_member x ys z a.1 m

-- two ascending lists with the same names are one
pub same_names : (xs ys : List End) → Ascending xs → Ascending ys → ((z : End) → Member z xs ↔ Member z ys) → xs ≡ ys
same_names [] [] a b s = refl
same_names [] (y ∷ ys) a b s = absurd ((s y).1 (inl refl))
same_names (x ∷ xs) [] a b s = absurd ((s x).0 (inl refl))
same_names (x ∷ xs) (y ∷ ys) a b s = cons_same head (same_names xs ys a.1 b.1 (λ z. (there z, back z)))
  where
    cons_same : {u v : End} {us vs : List End} → u ≡ v → us ≡ vs → u ∷ us ≡ v ∷ vs
    cons_same p q = cc

    head : x ≡ y
    head = go ((s x).0 (inl refl)) ((s y).1 (inl refl))
      where
        go : (y ≡ x) ⊎ Member x ys → (x ≡ y) ⊎ Member y xs → x ≡ y
        go (inl e) q = sym e
        go (inr m) (inl e) = e
        go (inr m) (inr n) = absurd (asym x y (above_member x xs y a.0 n) (above_member y ys x b.0 m))

    there : (z : End) → Member z xs → Member z ys
    there z m = go ((s z).0 (inr m))
      where
        go : (y ≡ z) ⊎ Member z ys → Member z ys
        go (inr n) = n
        go (inl e) = let l : IsTrue (end_lt x x) = subst (λ w. IsTrue (end_lt x w)) (sym (head ∙ e)) (above_member x xs z a.0 m) in absurd (asym x x l l)

    back : (z : End) → Member z ys → Member z xs
    back z m = go ((s z).1 (inr m))
      where
        go : (x ≡ z) ⊎ Member z xs → Member z xs
        go (inr n) = n
        go (inl e) = let l : IsTrue (end_lt y y) = subst (λ w. IsTrue (end_lt y w)) (sym (sym head ∙ e)) (above_member y ys z b.0 m) in absurd (asym y y l l)

-- moved names keep their order
moved_lt : (k : ℕ) (x y : End) → IsTrue (end_lt x y) → IsTrue (end_lt (further_end k x) (further_end k y))
moved_lt k x y e = go (lt_means x y e)
  where
    go : (x.node < y.node) ⊎ ((x.node ≡ y.node) × (x.base < y.base)) → IsTrue (end_lt (further_end k x) (further_end k y))
    go (inl a) = ap (λ t. t || (nat_eq x.node y.node && nat_lt (x.base + k) (y.base + k))) (lt-ltb x.node y.node a)
    go (inr a) = let l : x.base < y.base = a.1 in let m : x.base + k < y.base + k = omega arith in last (nat_lt x.node y.node) (nat_eq x.node y.node) (nat_lt (x.base + k) (y.base + k)) (eq-eqb x.node y.node a.0) (lt-ltb (x.base + k) (y.base + k) m)
      where
        last : (p q r : Bool) → q ≡ true → r ≡ true → IsTrue (p || (q && r))
        last true q r e f = refl
        last false true true e f = refl
        last false true false e f = cc
        last false false r e f = cc

moved_above : (k : ℕ) (x : End) (ys : List End) → AllAbove x ys → AllAbove (further_end k x) (map (further_end k) ys)
moved_above k x [] a = tt
moved_above k x (y ∷ ys) a = (moved_lt k x y a.0, moved_above k x ys a.1)

pub moved_ascending : (k : ℕ) (xs : List End) → Ascending xs → Ascending (map (further_end k) xs)
moved_ascending k [] a = tt
moved_ascending k (x ∷ xs) a = (moved_above k x xs a.0, moved_ascending k xs a.1)

pub moved_none : (xs : List End) → map (further_end 0) xs ≡ xs
moved_none [] = refl
moved_none (x ∷ xs) =
    let e : x.base + 0 ≡ x.base = omega arith in
    let h : further_end 0 x ≡ x = ap (λ t. record { node = x.node; base = t }) e in
    let t : map (further_end 0) xs ≡ xs = moved_none xs in
    cons_same h t
  where
    cons_same : {u v : End} {us vs : List End} → u ≡ v → us ≡ vs → u ∷ us ≡ v ∷ vs
    cons_same p q = cc

-- below the first row nothing is given
pub nothing_below : (from : ℕ) (rs : List Row) → Apart from rs → (a : ℕ) (y : End) → a < from → GivenBy rs a y → ⊥
nothing_below from [] ap' a y l g = g
nothing_below from (r ∷ rs) ap' a y l (inl g) = let p : from ≤ r.span.lo = ap'.0 in let q : r.span.lo ≤ a = lo_of r.span a g.0 in omega arith
nothing_below from (r ∷ rs) ap' a y l (inr g) = nothing_below (suc r.span.hi) rs ap'.4 a y (let p : from ≤ r.span.lo = ap'.0 in let q : r.span.lo ≤ r.span.hi = r.span.ordered in omega arith) g

-- a row has a name
row_end : (r : Row) → HasEnds r.ends → (e : End) × Member e r.ends
row_end r h = go r.ends h
  where
    go : (es : List End) → HasEnds es → (e : End) × Member e es
    go [] h = absurd h
    go (e ∷ es) h = (e, inl refl)

pub member_moved : (k : ℕ) (es : List End) (e : End) → Member e es → Member (further_end k e) (map (further_end k) es)
member_moved k [] e m = absurd m
member_moved k (d ∷ es) e (inl s) = inl (ap (further_end k) s)
member_moved k (d ∷ es) e (inr m) = inr (member_moved k es e m)

-- before the first row nothing is given
pub nothing_before : (from : ℕ) (r : Row) (rs : List Row) → Apart from (r ∷ rs) → (a : ℕ) (y : End) → a < r.span.lo → GivenBy (r ∷ rs) a y → ⊥
nothing_before from r rs p a y l (inl g) = let q : r.span.lo ≤ a = lo_of r.span a g.0 in omega arith
nothing_before from r rs p a y l (inr g) = nothing_below (suc r.span.hi) rs p.4 a y (let q : r.span.lo ≤ r.span.hi = r.span.ordered in omega arith) g

-- within the first row, its moved ends and no more
pub within_first : (from : ℕ) (r : Row) (rs : List Row) → Apart from (r ∷ rs) → (a : ℕ) (y : End) → r.span.lo ≤ a → a ≤ r.span.hi → GivenBy (r ∷ rs) a y ↔ Member y (map (further_end (a - r.span.lo)) r.ends)
within_first from r rs p a y lo hi = (down, (λ m. inl (in_from r.span a lo hi, m)))
  where
    down : GivenBy (r ∷ rs) a y → Member y (map (further_end (a - r.span.lo)) r.ends)
    down (inl g) = g.1
    down (inr g) = absurd (nothing_below (suc r.span.hi) rs p.4 a y (omega arith) g)

-- behind the first row, what the others give
pub behind_first : (r : Row) (rs : List Row) (a : ℕ) (y : End) → r.span.hi < a → GivenBy (r ∷ rs) a y → GivenBy rs a y
behind_first r rs a y l (inl g) = let q : a ≤ r.span.hi = hi_of r.span a g.0 in absurd (omega arith)
behind_first r rs a y l (inr g) = g

-- what rows give behind their first one, others give behind a first one that ends there, where they give it at all
behind_both : (r s : Row) (rs ss : List Row) → Apart (suc r.span.hi) rs → r.span.hi ≡ s.span.hi → (a : ℕ) (y : End) → (GivenBy (r ∷ rs) a y → GivenBy (s ∷ ss) a y) → GivenBy rs a y → GivenBy ss a y
behind_both r s rs ss p hi a y same g = elim (cases_lt r.span.hi a) [
  | inl l ↦ behind_first s ss a y (omega arith) (same (inr g))
  | inr k ↦ absurd (nothing_below (suc r.span.hi) rs p a y (omega arith) g)
]

-- the first row of one list begins no earlier than that of the other
no_earlier : (from : ℕ) (r s : Row) (rs ss : List Row) → Apart from (r ∷ rs) → Apart from (s ∷ ss) → ((a : ℕ) (y : End) → a ≤ TOP → GivenBy (r ∷ rs) a y → GivenBy (s ∷ ss) a y) → r.span.lo < s.span.lo → ⊥
no_earlier from r s rs ss p q same l =
    let e = row_end r p.1 in
    let lo : r.span.lo ≤ r.span.hi = r.span.ordered in
    let hi : r.span.hi ≤ TOP = r.span.within in
    let here : GivenBy (r ∷ rs) r.span.lo (further_end (r.span.lo - r.span.lo) e.0) = inl (in_from r.span r.span.lo (omega arith) lo, member_moved (r.span.lo - r.span.lo) r.ends e.0 e.1) in
    nothing_before from s ss q r.span.lo (further_end (r.span.lo - r.span.lo) e.0) l (same r.span.lo (further_end (r.span.lo - r.span.lo) e.0) (omega arith) here)

-- nor does it end earlier, where both begin alike
no_shorter : (from : ℕ) (r s : Row) (rs ss : List Row) → Apart from (r ∷ rs) → Apart from (s ∷ ss) → ((a : ℕ) (y : End) → a ≤ TOP → GivenBy (r ∷ rs) a y ↔ GivenBy (s ∷ ss) a y) → r.span.lo ≡ s.span.lo → r.ends ≡ s.ends → r.span.hi < s.span.hi → ⊥
no_shorter from r s [] ss p q same el ee l =
    let e = row_end s q.1 in
    let a : ℕ = suc r.span.hi in
    let below : s.span.hi ≤ TOP = s.span.within in
    let lo : r.span.lo ≤ r.span.hi = r.span.ordered in
    let here : GivenBy (s ∷ ss) (suc r.span.hi) (further_end (suc r.span.hi - s.span.lo) e.0) = inl (in_from s.span (suc r.span.hi) (omega arith) (omega arith), member_moved (suc r.span.hi - s.span.lo) s.ends e.0 e.1) in
    behind_first r [] (suc r.span.hi) (further_end (suc r.span.hi - s.span.lo) e.0) (omega arith) ((same (suc r.span.hi) (further_end (suc r.span.hi - s.span.lo) e.0) (omega arith)).1 here)
no_shorter from r s (t ∷ ts) ss p q same el ee l = touches (cases t.span.lo (suc r.span.hi))
  where
    below : s.span.hi ≤ TOP
    below = s.span.within

    lo : r.span.lo ≤ r.span.hi
    lo = r.span.ordered

    next : suc r.span.hi ≤ t.span.lo
    next = p.4.0

    t_in : t.span.lo ≤ t.span.hi
    t_in = t.span.ordered

    at : suc r.span.hi ≤ TOP
    at = omega (arith, below, l)

    s_lo : s.span.lo ≤ suc r.span.hi
    s_lo = omega (arith, lo, el)

    -- what is given just behind r
    given : (y : End) → GivenBy (t ∷ ts) (suc r.span.hi) y ↔ Member y (map (further_end (suc r.span.hi - s.span.lo)) s.ends)
    given y = ((λ g. (within_first from s ss q (suc r.span.hi) y s_lo l).0 ((same (suc r.span.hi) y at).0 (inr g))), (λ m. behind_first r (t ∷ ts) (suc r.span.hi) y (omega arith) ((same (suc r.span.hi) y at).1 ((within_first from s ss q (suc r.span.hi) y s_lo l).1 m))))

    cases : (m n : ℕ) → (n < m) ⊎ (m ≤ n)
    cases m n = grind arith

    touches : (suc r.span.hi < t.span.lo) ⊎ (t.span.lo ≤ suc r.span.hi) → ⊥
    touches (inl f) =
        let e = row_end s q.1 in
        nothing_before (suc r.span.hi) t ts p.4 (suc r.span.hi) (further_end (suc r.span.hi - s.span.lo) e.0) f ((given (further_end (suc r.span.hi - s.span.lo) e.0)).1 (member_moved (suc r.span.hi - s.span.lo) s.ends e.0 e.1))
    touches (inr f) =
        let tl : t.span.lo ≡ suc r.span.hi = omega (arith, next) in
        let z : suc r.span.hi - t.span.lo ≡ 0 = omega arith in
        let k : suc r.span.hi - s.span.lo ≡ suc r.span.hi - r.span.lo = ap (λ n. suc r.span.hi - n) (sym el) in
        let in_t : suc r.span.hi ≤ t.span.hi = omega (arith, t_in) in
        let names : map (further_end (suc r.span.hi - t.span.lo)) t.ends ≡ map (further_end (suc r.span.hi - s.span.lo)) s.ends = same_names (map (further_end (suc r.span.hi - t.span.lo)) t.ends) (map (further_end (suc r.span.hi - s.span.lo)) s.ends) (moved_ascending (suc r.span.hi - t.span.lo) t.ends p.4.2) (moved_ascending (suc r.span.hi - s.span.lo) s.ends q.2) (λ y. ((λ m. (given y).0 ((within_first (suc r.span.hi) t ts p.4 (suc r.span.hi) y f in_t).1 m)), (λ m. (within_first (suc r.span.hi) t ts p.4 (suc r.span.hi) y f in_t).0 ((given y).1 m)))) in
        let ends : t.ends ≡ map (further_end (suc r.span.hi - r.span.lo)) r.ends = sym (moved_none t.ends) ∙ (ap (λ n. map (further_end n) t.ends) (sym z) ∙ (names ∙ (ap (λ n. map (further_end n) s.ends) k ∙ ap (map (further_end (suc r.span.hi - r.span.lo))) (sym ee)))) in
        p.3 tl ends

same_row : (r s : Row) → r.span ≡ s.span → r.ends ≡ s.ends → r ≡ s
same_row r s e f = ap (λ t. record { span = t; ends = r.ends }) e ∙ ap (λ t. record { span = s.span; ends = t }) f

-- two lists of normal rows that give the same are one
pub same_rows : (rs ss : List Row) (from : ℕ) → Apart from rs → Apart from ss → ((a : ℕ) (y : End) → a ≤ TOP → GivenBy rs a y ↔ GivenBy ss a y) → rs ≡ ss
same_rows [] [] from p q same = refl
same_rows [] (s ∷ ss) from p q same = absurd (let e = row_end s q.1 in let lo : s.span.lo ≤ s.span.hi = s.span.ordered in let hi : s.span.hi ≤ TOP = s.span.within in (same s.span.lo (further_end (s.span.lo - s.span.lo) e.0) (omega arith)).1 (inl (in_from s.span s.span.lo (omega arith) lo, member_moved (s.span.lo - s.span.lo) s.ends e.0 e.1)))
same_rows (r ∷ rs) [] from p q same = absurd (let e = row_end r p.1 in let lo : r.span.lo ≤ r.span.hi = r.span.ordered in let hi : r.span.hi ≤ TOP = r.span.within in (same r.span.lo (further_end (r.span.lo - r.span.lo) e.0) (omega arith)).0 (inl (in_from r.span r.span.lo (omega arith) lo, member_moved (r.span.lo - r.span.lo) r.ends e.0 e.1)))
same_rows (r ∷ rs) (s ∷ ss) from p q same = cons_same row (same_rows rs ss (suc r.span.hi) p.4 (subst (λ n. Apart (suc n) ss) (sym hi) q.4) tails)
  where
    cons_same : {u v : Row} {us vs : List Row} → u ≡ v → us ≡ vs → u ∷ us ≡ v ∷ vs
    cons_same p q = cc

    cases : (m n : ℕ) → (m < n) ⊎ ((m ≡ n) ⊎ (n < m))
    cases m n = grind arith

    lo : r.span.lo ≡ s.span.lo
    lo = elim (cases r.span.lo s.span.lo) [
      | inl l ↦ absurd (no_earlier from r s rs ss p q (λ a y t. (same a y t).0) l)
      | inr k ↦ elim k [ inl e ↦ e | inr l ↦ absurd (no_earlier from s r ss rs q p (λ a y t. (same a y t).1) l) ]
    ]

    ends : r.ends ≡ s.ends
    ends =
        let rl : r.span.lo ≤ r.span.hi = r.span.ordered in
        let sl : s.span.lo ≤ s.span.hi = s.span.ordered in
        let rt : r.span.hi ≤ TOP = r.span.within in
        let e : r.span.lo ≡ s.span.lo = lo in
        let z : r.span.lo - r.span.lo ≡ 0 = omega arith in
        let w : r.span.lo - s.span.lo ≡ 0 = omega arith in
        let names : map (further_end (r.span.lo - r.span.lo)) r.ends ≡ map (further_end (r.span.lo - s.span.lo)) s.ends = same_names (map (further_end (r.span.lo - r.span.lo)) r.ends) (map (further_end (r.span.lo - s.span.lo)) s.ends) (moved_ascending (r.span.lo - r.span.lo) r.ends p.2) (moved_ascending (r.span.lo - s.span.lo) s.ends q.2) (λ y. ((λ m. (within_first from s ss q r.span.lo y (omega arith) (omega arith)).0 ((same r.span.lo y (omega arith)).0 ((within_first from r rs p r.span.lo y (omega arith) (omega arith)).1 m))), (λ m. (within_first from r rs p r.span.lo y (omega arith) (omega arith)).0 ((same r.span.lo y (omega arith)).1 ((within_first from s ss q r.span.lo y (omega arith) (omega arith)).1 m))))) in
        sym (moved_none r.ends) ∙ (ap (λ n. map (further_end n) r.ends) (sym z) ∙ (names ∙ (ap (λ n. map (further_end n) s.ends) w ∙ moved_none s.ends)))

    hi : r.span.hi ≡ s.span.hi
    hi = elim (cases r.span.hi s.span.hi) [
      | inl l ↦ absurd (no_shorter from r s rs ss p q same lo ends l)
      | inr k ↦ elim k [ inl e ↦ e | inr l ↦ absurd (no_shorter from s r ss rs q p (λ a y t. ((same a y t).1, (same a y t).0)) (sym lo) (sym ends) l) ]
    ]

    row : r ≡ s
    row = same_row r s (same_span r.span s.span lo hi) ends

    tails : (a : ℕ) (y : End) → a ≤ TOP → GivenBy rs a y ↔ GivenBy ss a y
    tails a y t = (behind_both r s rs ss p.4 hi a y (same a y t).0, behind_both s r ss rs q.4 (sym hi) a y (same a y t).1)

pub one_list : OneListOfRows
one_list rs ss p q same = same_rows rs ss 0 p q same

-- a function has at most one list of normal rows
pub one_normal : (f : ℕ → End → Type 0) (rs ss : List Row) → AreNormal f rs → AreNormal f ss → rs ≡ ss
one_normal f rs ss n m = same_rows rs ss 0 n.apart m.apart (λ a y t. ((λ g. (m.exact a y t).0 ((n.exact a y t).1 g)), (λ g. (n.exact a y t).0 ((m.exact a y t).1 g))))

-- rows that are normal for a function are so for each that gives the same
pub normal_like : (f g : ℕ → End → Type 0) (rs : List Row) → ((a : ℕ) (y : End) → a ≤ TOP → f a y ↔ g a y) → AreNormal f rs → AreNormal g rs
normal_like f g rs same n = record { apart = n.apart; exact = λ a y t. ((λ h. (n.exact a y t).0 ((same a y t).1 h)), (λ h. (same a y t).0 ((n.exact a y t).1 h))) }
