-- A walk over rows: each row that gives what is wanted fixes one number, with which placements go on.
use Rattle.std.proofs.Common.{◌≡◌, ℕ, suc, ◌+◌, ◌<◌, ◌≤◌, ◌⊎◌, ◌↔◌, inl, inr, List, [], ◌∷◌, ◌++◌, refl, sym, ap, ◌∙◌, arith}
use Rattle.std.proofs.lemmas.Bool.{cases_lt}
use Rattle.dn_interval.specs.declared.row.End.{End}
use Rattle.dn_interval.specs.declared.row.Row.{Row}
use Rattle.dn_interval.specs.Rows.{further_end, Apart, GivenBy}
use Rattle.dn_interval.proofs.Normal.{behind_first}
use Rattle.dn_tables.specs.Placement.{Place}
use Rattle.dn_place.specs.Sought.{Sought}
use Rattle.dn_placement.specs.Keys.{Begins}
use Rattle.dn_placement.specs.Order.{key_of}
use Rattle.dn_place.specs.Rows.{GivesOnly, InRow}
use Rattle.dn_place.proofs.Stretches.{in_head}
use Rattle.dn_place.specs.Candidates.{IsUnder, NoneUnder, IsFirstUnder}
use Rattle.dn_place.proofs.Levels.{NoneBelow, begun, leapt, found_first, none_left}

-- how far the walk has come: no placement goes on with a number before the rest of the rows
pub record Walked (s : Sought) (front : List ℕ) (rows rest : List Row) : Type 0 where
  pub bound : ℕ
  pub below : NoneBelow s front bound
  pub apart : Apart bound rest
  pub holds : (a : ℕ) (z : End) → bound ≤ a → GivenBy rows a z ↔ GivenBy rest a z

-- a placement goes on with the first address of a stretch
abbrev pub Stretches : Sought → List ℕ → List Row → End → Type 0
Stretches s front rows t = (q : Place) (j : ℕ) → IsUnder s (front ++ j ∷ []) q → GivesOnly rows t s.request.size j

pub set_out : (s : Sought) (front : List ℕ) (rows : List Row) → Apart 0 rows → Walked s front rows rows
set_out s front rows p = record { bound = 0; below = begun s front; apart = p; holds = λ a z l. ((λ g. g), (λ g. g)) }

only_rest : (rows rest : List Row) (bound : ℕ) (t : End) (size j : ℕ) → ((a : ℕ) (z : End) → bound ≤ a → GivenBy rows a z ↔ GivenBy rest a z) → bound ≤ j → GivesOnly rows t size j → GivesOnly rest t size j
only_rest rows rest bound t size j h l g i m z = ((λ x. (g i m z).0 ((h (j + i) z (omega arith)).1 x)), (λ x. (h (j + i) z (omega arith)).0 ((g i m z).1 x)))

-- a stretch that begins no earlier than the rest of the rows, and no later than its first row ends, lies in it
pub in_first : (s : Sought) (front : List ℕ) (rows : List Row) (r : Row) (rest : List Row) (t : End) → 1 ≤ s.request.size → Stretches s front rows t → (w : Walked s front rows (r ∷ rest)) → (q : Place) (j : ℕ) → w.bound ≤ j → j < suc r.span.hi → IsUnder s (front ++ j ∷ []) q → InRow r t s.request.size j
in_first s front rows r rest t some st w q j a b u = in_head w.bound r rest t s.request.size j w.apart some (omega arith) (only_rest rows (r ∷ rest) w.bound t s.request.size j w.holds a (st q j u))

pub walked_on : (s : Sought) (front : List ℕ) (rows : List Row) (r : Row) (rest : List Row) (t : End) → 1 ≤ s.request.size → Stretches s front rows t → Walked s front rows (r ∷ rest) → ((j : ℕ) → InRow r t s.request.size j → NoneUnder s (front ++ j ∷ [])) → Walked s front rows rest
walked_on s front rows r rest t some st w n = record {
  bound = suc r.span.hi;
  below = leapt s front w.bound (suc r.span.hi) w.below (λ q j a b u. (n j (in_first s front rows r rest t some st w q j a b u)).none q u);
  apart = w.apart.4;
  holds = λ a z l. ((λ g. behind_first r rest a z (omega arith) ((w.holds a z (past a l)).0 g)), (λ g. (w.holds a z (past a l)).1 (inr g)));
}
  where
    past : (a : ℕ) → suc r.span.hi ≤ a → w.bound ≤ a
    past a l = let f : w.bound ≤ r.span.lo = w.apart.0 in let o : r.span.lo ≤ r.span.hi = r.span.ordered in omega arith

abbrev first_base : List End → ℕ
first_base [] = 0
first_base (x ∷ xs) = x.base

pub one_in_row : (r : Row) (t : End) (size a b : ℕ) → InRow r t size a → InRow r t size b → a ≡ b
one_in_row r t size a b p q = let e : p.first ≡ q.first = firsts p.first q.first (sym p.ends ∙ q.ends) in omega (arith, p.base, q.base, p.from, q.from)
  where
    firsts : (m n : ℕ) → ◌≡◌ {A = List End} (record { node = t.node; base = m } ∷ []) (record { node = t.node; base = n } ∷ []) → m ≡ n
    firsts m n e = ap first_base e

pub walk_found : (s : Sought) (front : List ℕ) (rows : List Row) (r : Row) (rest : List Row) (t : End) (y : ℕ) (p : Place) → 1 ≤ s.request.size → Stretches s front rows t → Walked s front rows (r ∷ rest) → InRow r t s.request.size y → IsFirstUnder s (front ++ y ∷ []) p → IsFirstUnder s front p
walk_found s front rows r rest t y p some st w i f = found_first s front y p (leapt s front w.bound y w.below go) f
  where
    go : (q : Place) (j : ℕ) → w.bound ≤ j → j < y → IsUnder s (front ++ j ∷ []) q → ⊥
    go q j a b u = let k : j < suc r.span.hi = omega (arith, i.to) in absurd (omega (arith, one_in_row r t s.request.size j y (in_first s front rows r rest t some st w q j a k u) i))

pub walk_done : (s : Sought) (front : List ℕ) (rows : List Row) (t : End) → 1 ≤ s.request.size → Stretches s front rows t → ((q : Place) → IsUnder s front q → (j : ℕ) × Begins (front ++ j ∷ []) (key_of s.net q)) → Walked s front rows [] → NoneUnder s front
walk_done s front rows t some st goes w = none_left s front w.bound w.below (λ q u. by q u (goes q u))
  where
    by : (q : Place) → IsUnder s front q → (j : ℕ) × Begins (front ++ j ∷ []) (key_of s.net q) → (j : ℕ) × (j < w.bound) × Begins (front ++ j ∷ []) (key_of s.net q)
    by q u k = (k.0, below (cases_lt k.0 w.bound), k.1)
      where
        below : (k.0 < w.bound) ⊎ (w.bound ≤ k.0) → k.0 < w.bound
        below (inl l) = l
        below (inr l) = absurd ((only_rest rows [] w.bound t s.request.size k.0 w.holds l (st q k.0 (record { is = u.is; begins = k.1 })) 0 some (further_end 0 t)).1 refl)
