-- Rows that are normal are made address by address, from the last address to the first.
use Rattle.std.proofs.Common.{◌≡◌, ℕ, zero, suc, ◌+◌, ◌-◌, ◌<◌, ◌≤◌, ◌↔◌, inl, inr, Bool, true, false, ◌&&◌, cond, nat_eq, List, [], ◌∷◌, map, refl, sym, ap, ◌∙◌, subst, arith, eqb-true, eq-eqb}
use Rattle.std.proofs.lemmas.Bool.{and_parts, and_from, cases_lt, false≢true}
use Rattle.dn_base.proofs.Booleans.{false_from_ne_true}
use Rattle.dn_interval.specs.declared.row.End.{End}
use Rattle.dn_interval.specs.declared.row.Row.{Row}
use Rattle.dn_interval.specs.declared.span.TheConstants.{TOP}
use Rattle.dn_interval.specs.Rows.{Member, further_end, Ascending, HasEnds, Parted, Apart, GivenBy}
use Rattle.dn_interval.specs.Listed.{Seen, seen_view, same_end, same_ends, row_in_front, rows_from, listed_rows, NormalRowsAreListed}
use Rattle.dn_interval.proofs.Membership.{in_from, hi_of}
use Rattle.dn_interval.proofs.Ends.{one_end}
use Rattle.dn_interval.proofs.Normal.{same_names, moved_ascending, moved_none, nothing_before, within_first, behind_first}

-- the test that two lists of names are one

pub is_same : (xs : List End) → same_ends xs xs ≡ true
is_same [] = refl
is_same (x ∷ xs) = ap (λ b. cond b (same_ends xs xs) false) (and_from (nat_eq x.node x.node) (nat_eq x.base x.base) (eq-eqb x.node x.node refl) (eq-eqb x.base x.base refl)) ∙ is_same xs

pub one_list_of_ends : (xs ys : List End) → same_ends xs ys ≡ true → xs ≡ ys
one_list_of_ends [] [] e = refl
one_list_of_ends [] (y ∷ ys) e = absurd (false≢true e)
one_list_of_ends (x ∷ xs) [] e = absurd (false≢true e)
one_list_of_ends (x ∷ xs) (y ∷ ys) e = go (same_end x y) refl e (one_list_of_ends xs ys)
  where
    go : (b : Bool) → same_end x y ≡ b → cond b (same_ends xs ys) false ≡ true → (same_ends xs ys ≡ true → xs ≡ ys) → x ∷ xs ≡ y ∷ ys
    go true f g r = ap (λ t. t ∷ xs) (one_end x y f) ∙ ap (λ t. y ∷ t) (r g)
    go false f g r = absurd (false≢true g)

-- names moved on by one and then by more

pub moved_more : (k : ℕ) (xs : List End) → map (further_end k) (map (further_end 1) xs) ≡ map (further_end (suc k)) xs
moved_more k [] = refl
moved_more k (x ∷ xs) =
    let e : (x.base + 1) + k ≡ x.base + suc k = omega arith in
    ap (λ t. record { node = x.node; base = t } ∷ map (further_end k) (map (further_end 1) xs)) e ∙ ap (λ t. further_end (suc k) x ∷ t) (moved_more k xs)

no_names : (xs : List End) → ((y : End) → Member y xs → ⊥) → xs ≡ []
no_names [] f = refl
no_names (x ∷ xs) f = absurd (f x (inl refl))

has_moved : (k : ℕ) (xs : List End) → HasEnds xs → HasEnds (map (further_end k) xs)
has_moved k [] h = h
has_moved k (x ∷ xs) h = tt

-- The rows stand at an address or above it, and give what the function gives from there on.
record Rest (names : ℕ → List End) (from : ℕ) (rows : List Row) : Type 0 where
  apart : Apart from rows
  exact : (a : ℕ) (y : End) → from ≤ a → a ≤ TOP → Member y (names a) ↔ GivenBy rows a y

apart_later : (from to : ℕ) (r : Row) (rs : List Row) → Apart from (r ∷ rs) → to ≤ r.span.lo → Apart to (r ∷ rs)
apart_later from to r rs p l = (l, p.1, p.2, p.3, p.4)

-- no row begins at the address
rest_none : (names : ℕ → List End) (a : ℕ) → Rest names a [] → Rest names (suc a) []
rest_none names a v = record { apart = tt; exact = λ b y l t. v.exact b y (omega arith) t }

rest_later : (names : ℕ → List End) (a : ℕ) (r : Row) (rs : List Row) → Rest names a (r ∷ rs) → a < r.span.lo → Rest names (suc a) (r ∷ rs)
rest_later names a r rs v k = record { apart = apart_later a (suc a) r rs v.apart k; exact = λ b y l t. v.exact b y (omega arith) t }

-- the names of the first address of the first row
first_names : (names : ℕ → List End) (a : ℕ) (r : Row) (rs : List Row) → Ascending (names a) → Rest names a (r ∷ rs) → r.span.lo ≡ a → names a ≡ r.ends
first_names names a r rs up v e =
    let top : a ≤ TOP = omega (arith, r.span.ordered, r.span.within) in
    let hi : a ≤ r.span.hi = omega (arith, r.span.ordered) in
    let z : a - r.span.lo ≡ 0 = omega arith in
    same_names (names a) (map (further_end (a - r.span.lo)) r.ends) up (moved_ascending (a - r.span.lo) r.ends v.apart.2)
    (λ y. (
      (λ m. (within_first a r rs v.apart a y (omega arith) hi).0 ((v.exact a y (omega arith) top).0 m)),
      (λ m. (v.exact a y (omega arith) top).1 ((within_first a r rs v.apart a y (omega arith) hi).1 m)),
    ))
    ∙ ap (λ n. map (further_end n) r.ends) z
    ∙ moved_none r.ends

-- the row ends at the address
rest_ended : (names : ℕ → List End) (a : ℕ) (r : Row) (rs : List Row) → Rest names a (r ∷ rs) → r.span.hi ≡ a → Rest names (suc a) rs
rest_ended names a r rs v e = record {
  apart = subst (λ n. Apart (suc n) rs) e v.apart.4;
  exact = λ b y l t. ((λ m. behind_first r rs b y (omega arith) ((v.exact b y (omega arith) t).0 m)), (λ g. (v.exact b y (omega arith) t).1 (inr g)));
}

-- the row without its first address
module _ (r : Row) (more : r.span.lo < r.span.hi) where
  abbrev shorter : Row
  shorter = record { span = record { lo = suc r.span.lo; hi = r.span.hi; ordered = more; within = r.span.within }; ends = map (further_end 1) r.ends }

shorter_apart : (r : Row) (more : r.span.lo < r.span.hi) (rs : List Row) → Parted r rs → Parted (shorter r more) rs
shorter_apart r more [] p = tt
shorter_apart r more (s ∷ ss) p = λ e n.
    let k : suc (suc r.span.hi - suc r.span.lo) ≡ suc r.span.hi - r.span.lo = omega (arith, more) in
    p e (n ∙ moved_more (suc r.span.hi - suc r.span.lo) r.ends ∙ ap (λ t. map (further_end t) r.ends) k)

rest_shorter : (names : ℕ → List End) (a : ℕ) (r : Row) (rs : List Row) → Rest names a (r ∷ rs) → r.span.lo ≡ a → (more : r.span.lo < r.span.hi) → Rest names (suc a) (shorter r more ∷ rs)
rest_shorter names a r rs v e more = record {
  apart = (omega (arith, e), has_moved 1 r.ends v.apart.1, moved_ascending 1 r.ends v.apart.2, shorter_apart r more rs v.apart.3, v.apart.4);
  exact = λ b y l t. ((λ m. there b y l ((v.exact b y (omega arith) t).0 m)), (λ g. (v.exact b y (omega arith) t).1 (back b y l g)));
}
  where
    on : (b : ℕ) → suc a ≤ b → map (further_end (b - suc r.span.lo)) (map (further_end 1) r.ends) ≡ map (further_end (b - r.span.lo)) r.ends
    on b l =
        let k : suc (b - suc r.span.lo) ≡ b - r.span.lo = omega arith in
        moved_more (b - suc r.span.lo) r.ends ∙ ap (λ t. map (further_end t) r.ends) k

    there : (b : ℕ) (y : End) → suc a ≤ b → GivenBy (r ∷ rs) b y → GivenBy (shorter r more ∷ rs) b y
    there b y l (inl g) = inl (in_from (shorter r more).span b (omega arith) (hi_of r.span b g.0), subst (Member y) (sym (on b l)) g.1)
    there b y l (inr g) = inr g

    back : (b : ℕ) (y : End) → suc a ≤ b → GivenBy (shorter r more ∷ rs) b y → GivenBy (r ∷ rs) b y
    back b y l (inl g) = inl (in_from r.span b (omega arith) (hi_of (shorter r more).span b g.0), subst (Member y) (on b l) g.1)
    back b y l (inr g) = inr g

-- what stands in front of the rows above an address

front_none : (a : ℕ) (es : List End) (rows : List Seen) → es ≡ [] → row_in_front a es rows ≡ rows
front_none a [] rows e = refl
front_none a (x ∷ es) rows e = cc

seen_same : (r : Row) (a : ℕ) → r.span.lo ≡ a → ◌≡◌ {A = Seen} (record { lo = a; hi = r.span.hi; ends = r.ends }) (seen_view r)
seen_same r a e = ap (λ n. record { lo = n; hi = r.span.hi; ends = r.ends }) (sym e)

-- the row goes on
front_goes_on : (a hi : ℕ) (es : List End) (rows : List Seen) → HasEnds es → row_in_front a es (record { lo = suc a; hi = hi; ends = map (further_end 1) es } ∷ rows) ≡ record { lo = a; hi = hi; ends = es } ∷ rows
front_goes_on a hi [] rows h = absurd h
front_goes_on a hi (e ∷ es) rows h = ap (λ b. cond b (record { lo = a; hi = hi; ends = e ∷ es } ∷ rows) (record { lo = a; hi = a; ends = e ∷ es } ∷ (record { lo = suc a; hi = hi; ends = map (further_end 1) (e ∷ es) } ∷ rows))) (and_from (nat_eq (suc a) (suc a)) (same_ends (map (further_end 1) (e ∷ es)) (map (further_end 1) (e ∷ es))) (eq-eqb (suc a) (suc a) refl) (is_same (map (further_end 1) (e ∷ es))))

-- no row goes on
front_alone : (a : ℕ) (es : List End) → HasEnds es → row_in_front a es [] ≡ record { lo = a; hi = a; ends = es } ∷ []
front_alone a [] h = absurd h
front_alone a (e ∷ es) h = refl

front_apart : (a : ℕ) (es : List End) (s : Seen) (rows : List Seen) → HasEnds es → (s.lo ≡ suc a → s.ends ≡ map (further_end 1) es → ⊥) → row_in_front a es (s ∷ rows) ≡ record { lo = a; hi = a; ends = es } ∷ (s ∷ rows)
front_apart a [] s rows h f = absurd h
front_apart a (e ∷ es) s rows h f = ap (λ b. cond b (record { lo = a; hi = s.hi; ends = e ∷ es } ∷ rows) (record { lo = a; hi = a; ends = e ∷ es } ∷ (s ∷ rows))) (false_from_ne_true (nat_eq s.lo (suc a) && same_ends s.ends (map (further_end 1) (e ∷ es))) (λ t. let p = and_parts (nat_eq s.lo (suc a)) (same_ends s.ends (map (further_end 1) (e ∷ es))) t in f (eqb-true s.lo (suc a) p.0) (one_list_of_ends s.ends (map (further_end 1) (e ∷ es)) p.1)))

front_ended : (a : ℕ) (r : Row) (rs : List Row) → HasEnds r.ends → Parted r rs → r.span.lo ≡ a → r.span.hi ≡ a → row_in_front a r.ends (map seen_view rs) ≡ record { lo = a; hi = a; ends = r.ends } ∷ map seen_view rs
front_ended a r [] h p e f = front_alone a r.ends h
front_ended a r (s ∷ ss) h p e f =
    let k : 1 ≡ suc r.span.hi - r.span.lo = omega arith in
    front_apart a r.ends (seen_view s) (map seen_view ss) h (λ l n. p (l ∙ ap suc (sym f)) (n ∙ ap (λ t. map (further_end t) r.ends) k))

-- the rows from an address on, where those from the next one on are made
step : (names : ℕ → List End) (a : ℕ) (rows : List Row) (more : ℕ → List Seen) → Ascending (names a) → a ≤ TOP → Rest names a rows → ((others : List Row) → Rest names (suc a) others → map seen_view others ≡ more (suc a)) → map seen_view rows ≡ row_in_front a (names a) (more (suc a))
step names a [] more up top v made = made [] (rest_none names a v) ∙ sym (front_none a (names a) (more (suc a)) (no_names (names a) (λ y m. (v.exact a y (omega arith) top).0 m)))
step names a (r ∷ rs) more up top v made = elim (cases_lt a r.span.lo) [
  | inl l ↦ made (r ∷ rs) (rest_later names a r rs v l) ∙ sym (front_none a (names a) (more (suc a)) (no_names (names a) (λ y m. nothing_before a r rs v.apart a y l ((v.exact a y (omega arith) top).0 m))))
  | inr l ↦ here (omega (arith, v.apart.0, l))
]
  where
    here : r.span.lo ≡ a → map seen_view (r ∷ rs) ≡ row_in_front a (names a) (more (suc a))
    here e = elim (cases_lt r.span.lo r.span.hi) [
      | inl m ↦
          ap (λ t. t ∷ map seen_view rs) (sym (seen_same r a e))
          ∙ sym (front_goes_on a r.span.hi r.ends (map seen_view rs) v.apart.1)
          ∙ ap (λ n. row_in_front a r.ends (record { lo = suc n; hi = r.span.hi; ends = map (further_end 1) r.ends } ∷ map seen_view rs)) (sym e)
          ∙ ap (row_in_front a r.ends) (made (shorter r m ∷ rs) (rest_shorter names a r rs v e m))
          ∙ ap (λ t. row_in_front a t (more (suc a))) (sym (first_names names a r rs up v e))
      | inr m ↦
          let f : r.span.hi ≡ a = omega (arith, r.span.ordered) in
          ap (λ t. t ∷ map seen_view rs) (sym (seen_same r a e))
          ∙ ap (λ n. record { lo = a; hi = n; ends = r.ends } ∷ map seen_view rs) f
          ∙ sym (front_ended a r rs v.apart.1 v.apart.3 e f)
          ∙ ap (row_in_front a r.ends) (made rs (rest_ended names a r rs v f))
          ∙ ap (λ t. row_in_front a t (more (suc a))) (sym (first_names names a r rs up v e))
    ]

from_here : (names : ℕ → List End) → ((a : ℕ) → Ascending (names a)) → (k a : ℕ) (rows : List Row) → k + a ≡ TOP + 1 → Rest names a rows → map seen_view rows ≡ rows_from names k a
unfolding rows_from
from_here names up zero a [] e v = refl
from_here names up zero a (r ∷ rs) e v = absurd (omega (arith, v.apart.0, r.span.ordered, r.span.within))
from_here names up (suc k) a rows e v = step names a rows (rows_from names k) (up a) (omega arith) v (λ others w. from_here names up k (suc a) others (omega arith) w)

pub normal_are_listed : NormalRowsAreListed
unfolding listed_rows
normal_are_listed names up rows n =
    let k : (TOP + 1) + 0 ≡ TOP + 1 = omega arith in
    from_here names up (TOP + 1) 0 rows k (record { apart = n.apart; exact = λ a y l t. n.exact a y t })
