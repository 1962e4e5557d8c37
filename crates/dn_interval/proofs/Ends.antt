-- Names in order: a sorted list of names without those that come twice ascends, and has the same names.
use Rattle.std.proofs.Common.{◌≡◌, ℕ, ◌+◌, ◌-◌, ◌<◌, ◌≤◌, ◌⊎◌, inl, inr, Bool, true, false, ◌&&◌, ◌||◌, cond, nat_lt, nat_eq, List, [], ◌∷◌, length, refl, sym, ap, ◌∙◌, arith, IsTrue, eqb-true, eq-eqb, lt-ltb}
use Rattle.std.specs.List.{dedup, dedup_from}
use Rattle.std.specs.List.Sorted.{IsSorted}
use Rattle.std.specs.Ordering.{ordering_then, nat_cmp, is_lt}
use Rattle.std.specs.declared.cmp.Ordering.{Ordering}
use Rattle.std.proofs.lemmas.Bool.{and_parts, and_from, false≢true, cases_lt, cases_order}
use Rattle.dn_base.proofs.Booleans.{or_left}
use Rattle.dn_interval.specs.declared.row.End.{End}
use Rattle.dn_interval.specs.Rows.{end_lt, AllAbove, Ascending, HasEnds}
use Rattle.dn_interval.specs.Strands.{ends_give}
use Rattle.dn_interval.proofs.Order.{less, equal, rest_sorted}

abbrev pub end_eq : End → End → Bool
end_eq x y = nat_eq x.node y.node && nat_eq x.base y.base

abbrev pub end_cmp : End → End → Ordering
end_cmp x y = ordering_then (nat_cmp x.node y.node) (nat_cmp x.base y.base)

abbrev pub Before : End → End → Type 0
Before x y = (x.node < y.node) ⊎ ((x.node ≡ y.node) × (x.base < y.base))

abbrev pub NoLater : End → End → Type 0
NoLater x y = (x.node < y.node) ⊎ ((x.node ≡ y.node) × (x.base ≤ y.base))

no_later : (x y : End) → is_lt (end_cmp y x) ≡ false → NoLater x y
no_later x y h = elim (cases_order x.node y.node) [
  | inl e ↦ inr (e, bases e)
  | inr k ↦ elim k [
    | inl l ↦ inl l
    | inr l ↦ absurd (false≢true (sym h ∙ ap (λ o. is_lt (ordering_then o (nat_cmp y.base x.base))) (less y.node x.node l)))
  ]
]
  where
    second : x.node ≡ y.node → is_lt (nat_cmp y.base x.base) ≡ false
    second e = sym (ap (λ o. is_lt (ordering_then o (nat_cmp y.base x.base))) (equal y.node x.node (sym e))) ∙ h

    bases : x.node ≡ y.node → x.base ≤ y.base
    bases e = elim (cases_lt y.base x.base) [
      | inl l ↦ absurd (false≢true (sym (second e) ∙ ap is_lt (less y.base x.base l)))
      | inr l ↦ l
    ]

no_later_on : (x y z : End) → NoLater x y → NoLater y z → NoLater x z
no_later_on x y z (inl a) (inl b) = inl (omega arith)
no_later_on x y z (inl a) (inr b) = inl (omega (arith, b.0))
no_later_on x y z (inr a) (inl b) = inl (omega (arith, a.0))
no_later_on x y z (inr a) (inr b) = inr (a.0 ∙ b.0, omega (arith, a.1, b.1))

before_on : (x y z : End) → Before x y → NoLater y z → Before x z
before_on x y z (inl a) (inl b) = inl (omega arith)
before_on x y z (inl a) (inr b) = inl (omega (arith, b.0))
before_on x y z (inr a) (inl b) = inl (omega (arith, a.0))
before_on x y z (inr a) (inr b) = inr (a.0 ∙ b.0, omega (arith, a.1, b.1))

before_from : (x y : End) → NoLater x y → end_eq y x ≡ false → Before x y
before_from x y (inl a) e = inl a
before_from x y (inr a) e = elim (cases_order x.base y.base) [
  | inl f ↦ absurd (false≢true (sym e ∙ and_from (nat_eq y.node x.node) (nat_eq y.base x.base) (eq-eqb y.node x.node (sym a.0)) (eq-eqb y.base x.base (sym f))))
  | inr k ↦ elim k [ inl l ↦ inr (a.0, l) | inr l ↦ absurd (omega (arith, a.1)) ]
]

is_before : (x y : End) → Before x y → IsTrue (end_lt x y)
is_before x y (inl a) = or_left (nat_lt x.node y.node) (nat_eq x.node y.node && nat_lt x.base y.base) (lt-ltb x.node y.node a)
is_before x y (inr a) = go (nat_lt x.node y.node) (nat_eq x.node y.node) (nat_lt x.base y.base) (eq-eqb x.node y.node a.0) (lt-ltb x.base y.base a.1)
  where
    go : (p q r : Bool) → q ≡ true → r ≡ true → (p || (q && r)) ≡ true
    go true q r e f = refl
    go false q r e f = rw (e, f)

-- no name comes before the one in front of it
abbrev pub Rising : End → List End → Type 0
Rising x [] = Unit {0}
Rising x (y ∷ ys) = NoLater x y × Rising y ys

abbrev pub AllFrom : End → List End → Type 0
AllFrom x [] = Unit {0}
AllFrom x (y ∷ ys) = NoLater x y × AllFrom x ys

pub rising : (x : End) (xs : List End) → IsSorted end_cmp (x ∷ xs) → Rising x xs
rising x [] h = tt
rising x (y ∷ ys) h = (no_later x y (h 0 x (omega arith) (omega arith)), rising y ys (rest_sorted end_cmp x y ys h))

all_from : (x y : End) (ys : List End) → NoLater x y → AllFrom y ys → AllFrom x ys
all_from x y [] a p = tt
all_from x y (z ∷ zs) a p = (no_later_on x y z a p.0, all_from x y zs a p.1)

all_above : (x y : End) (ys : List End) → Before x y → AllFrom y ys → AllAbove x ys
all_above x y [] a p = tt
all_above x y (z ∷ zs) a p = (is_before x z (before_on x y z a p.0), all_above x y zs a p.1)

rising_from : (x y : End) (ys : List End) → NoLater x y → Rising y ys → Rising x ys
rising_from x y [] a p = tt
rising_from x y (z ∷ zs) a p = (no_later_on x y z a p.0, p.1)

at_cond : {X : Type 0} (P : X → Type 0) (b : Bool) (u v : X) → (b ≡ true → P u) → (b ≡ false → P v) → P (cond b u v)
at_cond P true u v f g = f refl
at_cond P false u v f g = g refl

kept_from : (x : End) (xs : List End) → Rising x xs → AllFrom x (dedup_from end_eq x xs)
kept_from x [] p = (inr (refl, omega arith), tt)
kept_from x (y ∷ ys) p =
    let here = kept_from x ys (rising_from x y ys p.0 p.1) in
    let there = kept_from y ys p.1 in
    at_cond (AllFrom x) (end_eq y x) (dedup_from end_eq x ys) (x ∷ dedup_from end_eq y ys) (λ e. here) (λ e. (inr (refl, omega arith), all_from x y (dedup_from end_eq y ys) p.0 there))

kept_ascends : (x : End) (xs : List End) → Rising x xs → Ascending (dedup_from end_eq x xs)
kept_ascends x [] p = (tt, tt)
kept_ascends x (y ∷ ys) p =
    let here = kept_ascends x ys (rising_from x y ys p.0 p.1) in
    let there = kept_ascends y ys p.1 in
    at_cond Ascending (end_eq y x) (dedup_from end_eq x ys) (x ∷ dedup_from end_eq y ys) (λ e. here) (λ e. (all_above x y (dedup_from end_eq y ys) (before_from x y p.0 e) (kept_from y ys p.1), there))

kept_some : (x : End) (xs : List End) → HasEnds (dedup_from end_eq x xs)
kept_some x [] = tt
kept_some x (y ∷ ys) =
    let here = kept_some x ys in
    at_cond HasEnds (end_eq y x) (dedup_from end_eq x ys) (x ∷ dedup_from end_eq y ys) (λ e. here) (λ e. tt)

pub one_end : (x y : End) → end_eq x y ≡ true → x ≡ y
one_end x y e =
    let p = and_parts (nat_eq x.node y.node) (nat_eq x.base y.base) e in
    ap (λ t. record { node = t; base = x.base }) (eqb-true x.node y.node p.0) ∙ ap (λ t. record { node = y.node; base = t }) (eqb-true x.base y.base p.1)

kept_gives : (x : End) (xs : List End) (from a : ℕ) (z : End) → ends_give (dedup_from end_eq x xs) from a z ≡ ends_give (x ∷ xs) from a z
kept_gives x [] from a z = refl
kept_gives x (y ∷ ys) from a z =
    let here = kept_gives x ys from a z in
    let there = kept_gives y ys from a z in
    at_cond (λ l. ends_give l from a z ≡ ends_give (x ∷ y ∷ ys) from a z) (end_eq y x) (dedup_from end_eq x ys) (x ∷ dedup_from end_eq y ys)
    (λ e. here ∙ twice (nat_eq x.node z.node && nat_eq (x.base + (a - from)) z.base) (ends_give ys from a z) ∙ ap (λ t. (nat_eq x.node z.node && nat_eq (x.base + (a - from)) z.base) || ((nat_eq t.node z.node && nat_eq (t.base + (a - from)) z.base) || ends_give ys from a z)) (sym (one_end y x e)))
    (λ e. ap (λ t. (nat_eq x.node z.node && nat_eq (x.base + (a - from)) z.base) || t) there)
  where
    twice : (p r : Bool) → (p || r) ≡ (p || (p || r))
    twice true r = refl
    twice false r = refl

pub dedup_ascends : (xs : List End) → IsSorted end_cmp xs → Ascending (dedup end_eq xs)
dedup_ascends [] h = tt
dedup_ascends (x ∷ xs) h = kept_ascends x xs (rising x xs h)

pub dedup_some : (xs : List End) → 0 < length xs → HasEnds (dedup end_eq xs)
dedup_some [] l = absurd (omega arith)
dedup_some (x ∷ xs) l = kept_some x xs

pub dedup_gives : (xs : List End) (from a : ℕ) (z : End) → ends_give (dedup end_eq xs) from a z ≡ ends_give xs from a z
dedup_gives [] from a z = refl
dedup_gives (x ∷ xs) from a z = kept_gives x xs from a z
