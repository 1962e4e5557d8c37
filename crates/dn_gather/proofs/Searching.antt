-- The search over addresses and units: what is passed over, what is found, and that it is the first of all.
use Rattle.std.proofs.Common.{◌≡◌, ℕ, suc, ◌+◌, ◌-◌, ◌%◌, ◌^◌, ◌<◌, ◌≤◌, ◌⊎◌, ◌↔◌, inl, inr, Bool, true, false, ◌&&◌, nat_eq, List, [], ◌∷◌, length, drop, get_or, IsTrue, refl, sym, ap, ◌∙◌, subst, arith}
use Rattle.std.proofs.lemmas.Bool.{and_parts, cases_lt, eqb-true}
use Rattle.std.proofs.lemmas.List.Folds.{list_any_none}
use Rattle.std.proofs.Math.ListN.{drop_of_length-le}
use Rattle.dn_base.proofs.Lists.{drop_at}
use Rattle.dn_interval.specs.declared.row.End.{End}
use Rattle.dn_interval.specs.declared.row.Row.{Row}
use Rattle.dn_interval.specs.Rows.{Apart, GivenBy}
use Rattle.dn_interval.specs.Spans.{in_span}
use Rattle.dn_interval.proofs.Membership.{in_from, lo_of}
use Rattle.dn_interval.proofs.Normal.{behind_first, nothing_below}
use Rattle.dn_place.specs.declared.exits.Exit.{Exit}
use Rattle.dn_place.specs.Exits.{has_exit}
use Rattle.dn_place.specs.Rows.{InRow}
use Rattle.dn_gather.specs.Outputs.{NoneAgree}

-- how far a walk over windows has come: no address below the bound has hops for the pieces
pub record Walking (none : ℕ → Type 0) (rows rest : List Row) : Type 0 where
  pub bound : ℕ
  pub apart : Apart bound rest
  pub holds : (a : ℕ) (z : End) → bound ≤ a → GivenBy rows a z ↔ GivenBy rest a z
  pub below : (v : ℕ) → v < bound → none v

-- an address that is given nothing has no hops for the pieces
abbrev pub Entered : (ℕ → Type 0) → List Row → Type 0
Entered none rows = (v : ℕ) → ((z : End) → GivenBy rows v z → ⊥) → none v

pub walk_begun : (none : ℕ → Type 0) (rows : List Row) → Apart 0 rows → Walking none rows rows
walk_begun none rows apart = record { bound = 0; apart = apart; holds = λ a z l. ((λ g. g), (λ g. g)); below = λ v l. absurd (omega arith) }

-- no address before the first of the rows that are left has hops for the pieces
pub walk_before : (none : ℕ → Type 0) (rows : List Row) (r : Row) (rest : List Row) → Entered none rows → Walking none rows (r ∷ rest) → (v : ℕ) → v < r.span.lo → none v
walk_before none rows r rest entered w v l = by (cases_lt v w.bound)
  where
    by : (v < w.bound) ⊎ (w.bound ≤ v) → none v
    by (inl m) = w.below v m
    by (inr m) = entered v (λ z g. out z ((w.holds v z m).0 g))
      where
        out : (z : End) → GivenBy (r ∷ rest) v z → ⊥
        out z (inl g) = let low : r.span.lo ≤ v = lo_of r.span v g.0 in omega arith
        out z (inr g) = nothing_below (suc r.span.hi) rest w.apart.4 v z (let o : r.span.lo ≤ r.span.hi = r.span.ordered in omega arith) g

-- a row of which no address has hops for the pieces
pub walk_on : (none : ℕ → Type 0) (rows : List Row) (i : ℕ) (r : Row) → i < length rows → r ≡ get_or rows i r → Entered none rows → Walking none rows (drop i rows) → ((v : ℕ) → IsTrue (in_span r.span v) → none v) → Walking none rows (drop (i + 1) rows)
walk_on none rows i r l is entered w here = by (subst (λ (rs : List Row). Walking none rows rs) (drop_at rows i r l is) w)
  where
    rest : List Row
    rest = drop (i + 1) rows

    by : Walking none rows (r ∷ rest) → Walking none rows rest
    by w = record {
      bound = suc r.span.hi;
      apart = w.apart.4;
      holds = λ a z l. ((λ g. behind_first r rest a z (omega arith) ((w.holds a z (past a l)).0 g)), (λ g. (w.holds a z (past a l)).1 (inr g)));
      below = λ v l. at v l (cases_lt v r.span.lo);
    }
      where
        past : (a : ℕ) → suc r.span.hi ≤ a → w.bound ≤ a
        past a l = let f : w.bound ≤ r.span.lo = w.apart.0 in let o : r.span.lo ≤ r.span.hi = r.span.ordered in omega arith

        at : (v : ℕ) → v < suc r.span.hi → (v < r.span.lo) ⊎ (r.span.lo ≤ v) → none v
        at v l (inl m) = walk_before none rows r rest entered w v m
        at v l (inr m) = here v (in_from r.span v m (omega arith))

pub walk_found : (none : ℕ → Type 0) (rows : List Row) (i : ℕ) (r : Row) → i < length rows → r ≡ get_or rows i r → Entered none rows → Walking none rows (drop i rows) → (v : ℕ) → v < r.span.lo → none v
walk_found none rows i r l is entered w = walk_before none rows r (drop (i + 1) rows) entered (subst (λ (rs : List Row). Walking none rows rs) (drop_at rows i r l is) w)

pub walk_done : (none : ℕ → Type 0) (rows : List Row) (i : ℕ) → length rows ≤ i → Entered none rows → Walking none rows (drop i rows) → (v : ℕ) → none v
walk_done none rows i l entered w v = by (subst (λ (rs : List Row). Walking none rows rs) (drop_of_length-le rows l) w)
  where
    by : Walking none rows [] → none v
    by w = at (cases_lt v w.bound)
      where
        at : (v < w.bound) ⊎ (w.bound ≤ v) → none v
        at (inl m) = w.below v m
        at (inr m) = entered v (λ z g. (w.holds v z m).0 g)

-- an output that is listed agrees with an input where one of the list does
pub agrees_none : (page place port y : ℕ) (exits : List Exit) → NoneAgree page place exits → has_exit port y exits ≡ true → y % 2 ^ page ≡ place → ⊥
agrees_none page place port y exits none has same = never (sym has ∙ list_any_none (λ (e : Exit). nat_eq e.port port && nat_eq e.y y) exits (λ k d l. out (get_or exits k d) (none k d l)))
  where
    never : true ≡ false → ⊥
    never e = cc

    out : (e : Exit) → (e.y % 2 ^ page ≡ place → ⊥) → (nat_eq e.port port && nat_eq e.y y) ≡ false
    out e f = by (nat_eq e.port port && nat_eq e.y y) refl
      where
        by : (b : Bool) → (nat_eq e.port port && nat_eq e.y y) ≡ b → b ≡ false
        by false t = refl
        by true t = absurd (f (ap (λ n. n % 2 ^ page) (eqb-true e.y y (and_parts (nat_eq e.port port) (nat_eq e.y y) t).1) ∙ same))

-- the address of the first name of a row
abbrev pub first_base : List End → ℕ
first_base [] = 0
first_base (x ∷ xs) = x.base

-- two stretches of one row lead to inputs that are as far apart as they are
pub row_inputs : (r : Row) (unit base lo x size v : ℕ) → InRow r (record { node = unit; base = base }) 1 lo → lo ≡ r.span.lo → InRow r (record { node = unit; base = x }) size v → x ≡ base + (v - lo)
row_inputs r unit base lo x size v p at q =
    let e : p.first ≡ q.first = firsts p.first q.first (sym p.ends ∙ q.ends) in
    omega (arith, e, p.base, q.base, q.from, at)
  where
    firsts : (m n : ℕ) → ◌≡◌ {A = List End} (record { node = unit; base = m } ∷ []) (record { node = unit; base = n } ∷ []) → m ≡ n
    firsts m n e = ap first_base e

-- the input of the first address of a row that leads to the unit
pub row_leads : (r : Row) (unit x size v : ℕ) → InRow r (record { node = unit; base = x }) size v → InRow r (record { node = unit; base = first_base r.ends }) 1 r.span.lo
row_leads r unit x size v q = record {
  first = q.first;
  ends = q.ends;
  base = (let e : first_base r.ends ≡ q.first = ap first_base q.ends in omega (arith, e));
  from = omega arith;
  to = (let o : r.span.lo ≤ r.span.hi = r.span.ordered in omega arith);
}
