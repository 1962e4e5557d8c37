-- Rows that give one name to each address of a stretch.
use Rattle.std.proofs.Common.{◌≡◌, ℕ, zero, suc, ◌+◌, ◌-◌, ◌<◌, ◌≤◌, ◌⊎◌, ◌↔◌, inl, inr, Bool, true, false, ◌&&◌, ◌||◌, nat_lt, nat_eq, List, [], ◌∷◌, length, map, get_or, refl, sym, ap, ◌∙◌, subst, arith, IsTrue}
use Rattle.std.specs.List.{Contains}
use Rattle.std.proofs.lemmas.Bool.{cases_lt, false≢true, le-ltb}
use Rattle.dn_interval.specs.declared.row.End.{End}
use Rattle.dn_interval.specs.declared.row.Row.{Row}
use Rattle.dn_interval.specs.Rows.{Member, further_end, end_lt, Ascending, HasEnds, Parted, Apart, GivenBy}
use Rattle.dn_interval.specs.Spans.{in_span}
use Rattle.dn_interval.proofs.Membership.{hi_of, in_from, lo_of}
use Rattle.dn_interval.proofs.Normal.{nothing_below, behind_first}
use Rattle.dn_place.specs.Rows.{GivesOnly, InRow}

-- what is given at an address of the first row, or past it

pub head_gives : (from : ℕ) (r : Row) (rest : List Row) (a : ℕ) (z : End) → Apart from (r ∷ rest) → a ≤ r.span.hi → GivenBy (r ∷ rest) a z → (r.span.lo ≤ a) × Member z (map (further_end (a - r.span.lo)) r.ends)
head_gives from r rest a z p h (inl g) = (lo_of r.span a g.0, g.1)
head_gives from r rest a z p h (inr g) = absurd (nothing_below (suc r.span.hi) rest p.4 a z (omega arith) g)

-- one name alone

no_order : (x : End) → IsTrue (end_lt x x) → ⊥
no_order x e = go (nat_lt x.node x.node) (nat_eq x.node x.node) (nat_lt x.base x.base) (le-ltb x.node x.node (omega arith)) (le-ltb x.base x.base (omega arith)) e
  where
    go : (a b c : Bool) → a ≡ false → c ≡ false → IsTrue (a || (b && c)) → ⊥
    go true b c p q e = false≢true (sym p)
    go false true c p q e = false≢true (sym q ∙ e)
    go false false c p q e = false≢true e

-- names that are one, moved on alike, are one
same_end : (d : ℕ) (x y : End) → further_end d x ≡ further_end d y → x ≡ y
same_end d x y e = go x.node x.base y.node y.base (ap (λ (z : End). z.node) e) (ap (λ (z : End). z.base) e)
  where
    go : (n b m c : ℕ) → n ≡ m → b + d ≡ c + d → ◌≡◌ {A = End} (record { node = n; base = b }) (record { node = m; base = c })
    go n b m c p q = let r : b ≡ c = omega arith in cc

-- ascending names that are one name are one
pub one_end : (d : ℕ) (ends : List End) (t : End) → HasEnds ends → Ascending ends → ((z : End) → Member z (map (further_end d) ends) → t ≡ z) → (e : End) × (ends ≡ e ∷ []) × (further_end d e ≡ t)
one_end d [] t h a f = absurd h
one_end d (e ∷ []) t h a f = (e, refl, sym (f (further_end d e) (inl refl)))
one_end d (e ∷ e' ∷ es) t h a f = let same : e ≡ e' = same_end d e e' (sym (f (further_end d e) (inl refl)) ∙ f (further_end d e') (inr (inl refl))) in absurd (no_order e (subst (λ w. IsTrue (end_lt e w)) (sym same) a.0.0))

-- a name that is given past the first row is given by the row that touches it, where it is given just there
next_row : (from : ℕ) (s : Row) (ss : List Row) (z : End) → Apart from (s ∷ ss) → GivenBy (s ∷ ss) from z → s.span.lo ≡ from
next_row from s ss z p (inl g) = let k : s.span.lo ≤ from = lo_of s.span from g.0 in let f : from ≤ s.span.lo = p.0 in omega arith
next_row from s ss z p (inr g) = absurd (nothing_below (suc s.span.hi) ss p.4 from z (let o : s.span.lo ≤ s.span.hi = s.span.ordered in let f : from ≤ s.span.lo = p.0 in omega arith) g)

-- a stretch that begins at the first row or past the rows before it, and at an address of the first row, lies in it
pub in_head : (from : ℕ) (r : Row) (rest : List Row) (t : End) (size a : ℕ) → Apart from (r ∷ rest) → 1 ≤ size → a ≤ r.span.hi → GivesOnly (r ∷ rest) t size a → InRow r t size a
in_head from r rest t size a p some h g = record {
  first = one.0.base;
  ends = one.1 ∙ ap (λ n. let x : End = record { node = n; base = one.0.base } in x ∷ []) (ap (λ (z : End). z.node) one.2);
  base = ap (λ (z : End). z.base) one.2;
  from = here.0;
  to = go (cases_lt (suc r.span.hi) (a + size));
}
  where
    at : (i : ℕ) → i < size → (b : ℕ) → a + i ≡ b → (z : End) → GivenBy (r ∷ rest) b z ↔ (further_end i t ≡ z)
    at i l b e z = subst (λ k. GivenBy (r ∷ rest) k z ↔ (further_end i t ≡ z)) e (g i l z)

    unmoved : further_end 0 t ≡ t
    unmoved = made t.node t.base
      where
        made : (n b : ℕ) → ◌≡◌ {A = End} (record { node = n; base = b + 0 }) (record { node = n; base = b })
        made n b = let e : b + 0 ≡ b = omega arith in cc

    here : (r.span.lo ≤ a) × Member t (map (further_end (a - r.span.lo)) r.ends)
    here = head_gives from r rest a t p h ((at 0 (omega arith) a (omega arith) t).1 unmoved)

    one : (e : End) × (r.ends ≡ e ∷ []) × (further_end (a - r.span.lo) e ≡ t)
    one = one_end (a - r.span.lo) r.ends t p.1 p.2 (λ z m. sym unmoved ∙ (at 0 (omega arith) a (omega arith) z).0 (inl (in_from r.span a here.0 h, m)))

    past : (rs : List Row) → Parted r rs → Apart (suc r.span.hi) rs → (i : ℕ) → i < size → a + i ≡ suc r.span.hi → ((z : End) → GivenBy rs (suc r.span.hi) z ↔ (further_end i t ≡ z)) → ⊥
    past [] q k i l e f = (f (further_end i t)).1 refl
    past (s ∷ ss) q k i l e f =
        let starts : s.span.lo ≡ suc r.span.hi = next_row (suc r.span.hi) s ss (further_end i t) k ((f (further_end i t)).1 refl) in
        let two = one_end (suc r.span.hi - s.span.lo) s.ends (further_end i t) k.1 k.2 (λ z m. (f z).0 (inl (in_from s.span (suc r.span.hi) (omega arith) (let o : s.span.lo ≤ s.span.hi = s.span.ordered in omega arith), m))) in
        q starts (two.1 ∙ ap (λ (z : End). z ∷ []) (made two.0.node two.0.base one.0.node one.0.base (ap (λ (z : End). z.node) two.2) (ap (λ (z : End). z.node) one.2) (ap (λ (z : End). z.base) two.2) (ap (λ (z : End). z.base) one.2) starts) ∙ sym (ap (map (further_end (suc r.span.hi - r.span.lo))) one.1))
      where
        made : (n b m c : ℕ) → n ≡ t.node → m ≡ t.node → b + (suc r.span.hi - s.span.lo) ≡ t.base + i → c + (a - r.span.lo) ≡ t.base → s.span.lo ≡ suc r.span.hi → ◌≡◌ {A = End} (record { node = n; base = b }) (record { node = m; base = c + (suc r.span.hi - r.span.lo) })
        made n b m c x y u v w = let from_here : r.span.lo ≤ a = here.0 in let k : b ≡ c + (suc r.span.hi - r.span.lo) = omega arith in let j : n ≡ m = omega arith in cc

    go : (suc r.span.hi < a + size) ⊎ (a + size ≤ suc r.span.hi) → a + size ≤ suc r.span.hi
    go (inr m) = m
    go (inl m) =
        let e : a + (suc r.span.hi - a) ≡ suc r.span.hi = omega arith in
        let l : suc r.span.hi - a < size = omega arith in
        absurd (past rest p.3 p.4 (suc r.span.hi - a) l e (λ z. ((λ x. (at (suc r.span.hi - a) l (suc r.span.hi) e z).0 (inr x)), (λ x. behind_first r rest (suc r.span.hi) z (omega arith) ((at (suc r.span.hi - a) l (suc r.span.hi) e z).1 x)))))

-- a row after others begins after them
row_after : (from : ℕ) (rows : List Row) (k : ℕ) (r : Row) → Apart from rows → k < length rows → get_or rows k r ≡ r → from ≤ r.span.lo
row_after from [] k r p l g = absurd (omega arith)
row_after from (q ∷ rows) zero r p l g = subst (λ (x : Row). from ≤ x.span.lo) g p.0
row_after from (q ∷ rows) (suc k) r p l g =
    let more : suc q.span.hi ≤ r.span.lo = row_after (suc q.span.hi) rows k r p.4 (omega arith) g in
    let low : from ≤ q.span.lo = p.0 in
    let order : q.span.lo ≤ q.span.hi = q.span.ordered in
    omega arith

-- the row that has the first address of a stretch has all of it
row_at : (from : ℕ) (rows : List Row) (k : ℕ) (r : Row) (t : End) (size a : ℕ) → Apart from rows → k < length rows → get_or rows k r ≡ r → IsTrue (in_span r.span a) → 1 ≤ size → GivesOnly rows t size a → InRow r t size a
row_at from [] k r t size a p l g at some only = absurd (omega arith)
row_at from (q ∷ rows) zero r t size a p l g at some only =
    subst (λ (x : Row). InRow x t size a) g (in_head from q rows t size a p some (subst (λ (x : Row). a ≤ x.span.hi) (sym g) (hi_of r.span a at)) only)
row_at from (q ∷ rows) (suc k) r t size a p l g at some only =
    let behind : suc q.span.hi ≤ r.span.lo = row_after (suc q.span.hi) rows k r p.4 (omega arith) g in
    let low : r.span.lo ≤ a = lo_of r.span a at in
    row_at (suc q.span.hi) rows k r t size a p.4 (omega arith) g at some (λ i m z. ((λ x. (only i m z).0 (inr x)), (λ x. behind_first q rows (a + i) z (omega arith) ((only i m z).1 x))))

-- so of rows that stand apart, the one that has the first address of a stretch has all of it
pub row_has : (rows : List Row) (r : Row) (t : End) (size a : ℕ) → Apart 0 rows → Contains rows r → IsTrue (in_span r.span a) → 1 ≤ size → GivesOnly rows t size a → InRow r t size a
row_has rows r t size a p c at some only = row_at 0 rows c.0 r t size a p c.1 c.2 at some only
