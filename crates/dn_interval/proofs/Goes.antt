-- Rows whose names go on: the names that they give, each followed by what its node gives.
use Rattle.std.proofs.Common.{◌≡◌, ℕ, ◌+◌, ◌-◌, ◌<◌, ◌≤◌, ◌↔◌, inl, inr, Bool, true, nat_lt, List, [], ◌∷◌, map, length, slice_get, Option, Some, None, refl, sym, ap, subst, arith, ltb-true, All}
use Rattle.std.specs.List.{list_all, list_any}
use Rattle.std.proofs.lemmas.Bool.{or_cases, and_parts, and_from, false≢true}
use Rattle.std.proofs.lemmas.List.Elements.{All-tail}
use Rattle.dn_base.proofs.Booleans.{or_left, or_right}
use Rattle.dn_base.proofs.Lists.{item_there}
use Rattle.dn_interval.specs.declared.row.End.{End}
use Rattle.dn_interval.specs.declared.row.Row.{Row}
use Rattle.dn_interval.specs.declared.span.TheConstants.{TOP}
use Rattle.dn_interval.specs.Spans.{in_span}
use Rattle.dn_interval.specs.Rows.{Member, further_end, GivenBy, EndsFit, AreNormal, ends_within}
use Rattle.dn_interval.specs.Strands.{rows_give}
use Rattle.dn_interval.specs.Onward.{ends_go, row_goes, rows_go, rows_of, gives_by, RowsGoOn}
use Rattle.dn_interval.proofs.Membership.{lo_of, hi_of}
use Rattle.dn_interval.proofs.Names.{rows_from, rows_to}

module _ (next : ℕ → ℕ → End → Bool) (z : End) where
  abbrev any_goes : ℕ → List End → Bool
  any_goes d es = list_any (λ e. next e.node (e.base + d) z) es

  end_of_any : (d : ℕ) (es : List End) → any_goes d es ≡ true → (y : End) × Member y (map (further_end d) es) × (next y.node y.base z ≡ true)
  end_of_any d [] e = absurd (false≢true e)
  end_of_any d (x ∷ es) e = elim (or_cases (next x.node (x.base + d) z) (any_goes d es) e) [
    | inl g ↦ (further_end d x, inl refl, g)
    | inr g ↦ (let r = end_of_any d es g in (r.0, inr r.1, r.2))
  ]

  any_of_end : (d : ℕ) (es : List End) (y : End) → Member y (map (further_end d) es) → next y.node y.base z ≡ true → any_goes d es ≡ true
  any_of_end d [] y m g = absurd m
  any_of_end d (x ∷ es) y (inl e) g = or_left (next x.node (x.base + d) z) (any_goes d es) (subst (λ (w : End). next w.node w.base z ≡ true) (sym e) g)
  any_of_end d (x ∷ es) y (inr m) g = or_right (next x.node (x.base + d) z) (any_goes d es) (any_of_end d es y m g)

  onward : (rows : List Row) (a : ℕ) → rows_go next rows a z ≡ true → (y : End) × GivenBy rows a y × (next y.node y.base z ≡ true)
  onward [] a e = absurd (false≢true e)
  onward (r ∷ rs) a e = elim (or_cases (row_goes next r a z) (rows_go next rs a z) e) [
    | inl g ↦ (let p = and_parts (in_span r.span a) (ends_go next r.ends r.span.lo a z) g in let q = end_of_any (a - r.span.lo) r.ends p.1 in (q.0, inl (p.0, q.1), q.2))
    | inr g ↦ (let q = onward rs a g in (q.0, inr q.1, q.2))
  ]

  back : (rows : List Row) (a : ℕ) (y : End) → GivenBy rows a y → next y.node y.base z ≡ true → rows_go next rows a z ≡ true
  back [] a y g e = absurd g
  back (r ∷ rs) a y (inl g) e = or_left (row_goes next r a z) (rows_go next rs a z) (and_from (in_span r.span a) (ends_go next r.ends r.span.lo a z) g.0 (any_of_end (a - r.span.lo) r.ends y g.1 e))
  back (r ∷ rs) a y (inr g) e = or_right (row_goes next r a z) (rows_go next rs a z) (back rs a y g e)

pub rows_go_on : RowsGoOn
rows_go_on next rows a z = (onward next z rows a, (λ h. back next z rows a h.0 h.1 h.2))

-- the names that rows give have addresses, and are in nodes that are there

ends_fit : (d w : ℕ) (es : List End) (y : End) → All (λ (e : End). e.base + w ≤ TOP) es → d ≤ w → Member y (map (further_end d) es) → y.base ≤ TOP
ends_fit d w [] y all l m = absurd m
ends_fit d w (e ∷ es) y all l (inl s) =
    let p : e.base + w ≤ TOP = all 0 e (omega arith) in
    let q : e.base + d ≡ y.base = ap (λ t. t.base) s in
    omega arith
ends_fit d w (e ∷ es) y all l (inr m) = ends_fit d w es y (All-tail (λ (x : End). x.base + w ≤ TOP) e es all) l m

pub given_fits : (rows : List Row) → All EndsFit rows → (a : ℕ) (y : End) → GivenBy rows a y → y.base ≤ TOP
given_fits [] fit a y g = absurd g
given_fits (r ∷ rs) fit a y (inl g) =
    let lo : r.span.lo ≤ a = lo_of r.span a g.0 in
    let hi : a ≤ r.span.hi = hi_of r.span a g.0 in
    ends_fit (a - r.span.lo) (r.span.hi - r.span.lo) r.ends y (fit 0 r (omega arith)) (omega arith) g.1
given_fits (r ∷ rs) fit a y (inr g) = given_fits rs (All-tail EndsFit r rs fit) a y g

node_in : (count d : ℕ) (es : List End) (y : End) → list_all (λ e. nat_lt e.node count) es ≡ true → Member y (map (further_end d) es) → y.node < count
node_in count d [] y e m = absurd m
node_in count d (x ∷ es) y e (inl s) = subst (λ n. n < count) (ap (λ t. t.node) s) (ltb-true x.node count (and_parts (nat_lt x.node count) (list_all (λ e. nat_lt e.node count) es) e).0)
node_in count d (x ∷ es) y e (inr m) = node_in count d es y (and_parts (nat_lt x.node count) (list_all (λ e. nat_lt e.node count) es) e).1 m

pub given_within : (count : ℕ) (rows : List Row) → ends_within count rows ≡ true → (a : ℕ) (y : End) → GivenBy rows a y → y.node < count
given_within count [] e a y g = absurd g
given_within count (r ∷ rs) e a y (inl g) = node_in count (a - r.span.lo) r.ends y (and_parts (list_all (λ x. nat_lt x.node count) r.ends) (ends_within count rs) e).0 g.1
given_within count (r ∷ rs) e a y (inr g) = given_within count rs (and_parts (list_all (λ x. nat_lt x.node count) r.ends) (ends_within count rs) e).1 a y g

-- rows of one relation, followed by the rows of each node for another: both relations, one after the other

pub composed : {X : Type 0} (f : X → List Row) (nodes : List X) (T : ℕ → ℕ → End → Type 0) → ((m : ℕ) (x : X) → slice_get nodes m ≡ Some x → AreNormal (T m) (f x)) → (F : ℕ → End → Type 0) (rows : List Row) → AreNormal F rows → All EndsFit rows → ends_within (length nodes) rows ≡ true → (a : ℕ) (z : End) → a ≤ TOP → (rows_go (gives_by f nodes) rows a z ≡ true) ↔ ((y : End) × F a y × T y.node y.base z)
composed {X} f nodes T normal F rows n fit there a z low = (to, from)
  where
    next_to : (y : End) → y.base ≤ TOP → (o : Option X) → slice_get nodes y.node ≡ o → rows_give (rows_of f o) y.base z ≡ true → T y.node y.base z
    next_to y l None e g = absurd (false≢true g)
    next_to y l (Some x) e g = ((normal y.node x e).exact y.base z l).1 (rows_to (f x) y.base z g)

    to : rows_go (gives_by f nodes) rows a z ≡ true → (y : End) × F a y × T y.node y.base z
    to e =
        let r = (rows_go_on (gives_by f nodes) rows a z).0 e in
        (r.0, (n.exact a r.0 low).1 r.1, next_to r.0 (given_fits rows fit a r.0 r.1) (slice_get nodes r.0.node) refl r.2)

    from : ((y : End) × F a y × T y.node y.base z) → rows_go (gives_by f nodes) rows a z ≡ true
    from h =
        let g : GivenBy rows a h.0 = (n.exact a h.0 low).0 h.1 in
        let l : h.0.base ≤ TOP = given_fits rows fit a h.0 g in
        let s = item_there nodes h.0.node (given_within (length nodes) rows there a h.0 g) in
        let t : rows_give (f s.0) h.0.base z ≡ true = rows_from (f s.0) h.0.base z (((normal h.0.node s.0 s.1).exact h.0.base z l).0 h.2) in
        (rows_go_on (gives_by f nodes) rows a z).1 (h.0, g, subst (λ o. rows_give (rows_of f o) h.0.base z ≡ true) (sym s.1) t)
