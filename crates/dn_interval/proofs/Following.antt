-- Strands that follow one another by node, by slide and apart; each of them is maximal.
use Rattle.std.proofs.Common.{◌≡◌, ℕ, zero, suc, ◌+◌, ◌<◌, ◌≤◌, ◌⊎◌, inl, inr, Bool, true, false, ◌&&◌, ◌||◌, nat_eq, leb, List, [], ◌∷◌, ◌++◌, drop, length, get_or, refl, sym, ap, ◌∙◌, subst, arith, append_assoc, length-drop}
use Rattle.std.specs.List.{All}
use Rattle.std.specs.List.Sorted.{IsSorted, IsNonDecreasingBy}
use Rattle.std.proofs.lemmas.List.{get_or_default, get_or-drop}
use Rattle.std.specs.Ordering.{ordering_then, nat_cmp, is_lt}
use Rattle.std.proofs.lemmas.Bool.{or_cases, and_parts, and_from, eqb-true, eq-eqb, le-leb, false≢true, cases_lt, cases_order}
use Rattle.std.proofs.lemmas.List.Folds.{list_any-append}
use Rattle.dn_base.proofs.Booleans.{false_from_ne_true}
use Rattle.dn_interval.specs.declared.row.End.{End}
use Rattle.dn_interval.specs.declared.strand.Strand.{Strand}
use Rattle.dn_interval.specs.declared.span.Span.{Span}
use Rattle.dn_interval.specs.declared.span.TheConstants.{TOP}
use Rattle.dn_interval.specs.Spans.{in_span}
use Rattle.dn_interval.specs.Strands.{is_slid, strand_gives, strands_give, strand_cmp, IsMaximal}
use Rattle.dn_interval.proofs.Membership.{lo_of, hi_of}
use Rattle.dn_interval.proofs.Order.{less, equal, rest_sorted}

-- by node, by slide, and where these are the same by a relation of spans
abbrev pub By : (Span → Span → Type 0) → Strand → Strand → Type 0
By R s t = (s.node < t.node) ⊎ ((s.node ≡ t.node) × ((s.slide < t.slide) ⊎ ((s.slide ≡ t.slide) × R s.span t.span)))

by_on : (R : Span → Span → Type 0) → ((p q r : Span) → R p q → R q r → R p r) → (s t u : Strand) → By R s t → By R t u → By R s u
by_on R on s t u (inl l) (inl k) = inl (omega arith)
by_on R on s t u (inl l) (inr (e, g)) = inl (omega arith)
by_on R on s t u (inr (e, g)) (inl k) = inl (omega arith)
by_on R on s t u (inr (e, inl l)) (inr (f, inl k)) = inr (e ∙ f, inl (omega arith))
by_on R on s t u (inr (e, inl l)) (inr (f, inr k)) = inr (e ∙ f, inl (omega (arith, k.0)))
by_on R on s t u (inr (e, inr g)) (inr (f, inl k)) = inr (e ∙ f, inl (omega (arith, g.0)))
by_on R on s t u (inr (e, inr g)) (inr (f, inr k)) = inr (e ∙ f, inr (g.0 ∙ k.0, on s.span t.span u.span g.1 k.1))

-- the second stands behind the first: by node, by slide, or with a gap between them
abbrev pub Follows : Strand → Strand → Type 0
Follows = By (λ p q. p.hi + 2 ≤ q.lo)

abbrev pub AllPrecede : List Strand → Strand → Type 0
AllPrecede [] t = Unit {0}
AllPrecede (s ∷ ss) t = Follows s t × AllPrecede ss t

abbrev pub AllFollow : Strand → List Strand → Type 0
AllFollow s [] = Unit {0}
AllFollow s (t ∷ ts) = Follows s t × AllFollow s ts

abbrev pub Ordered : List Strand → Type 0
Ordered [] = Unit {0}
Ordered (s ∷ ss) = AllFollow s ss × Ordered ss

-- by node, by slide and by first address
abbrev pub ComesBefore : Strand → Strand → Type 0
ComesBefore = By (λ p q. p.lo ≤ q.lo)

-- each of the strands comes no later than the next
abbrev pub NoLater : Strand → Strand → Type 0
NoLater s t = is_lt (strand_cmp t s) ≡ false

abbrev pub InOrder : Strand → List Strand → Type 0
InOrder s [] = Unit {0}
InOrder s (t ∷ ts) = ComesBefore s t × InOrder t ts

pub comes_before : (s t : Strand) → NoLater s t → ComesBefore s t
comes_before s t h = elim (cases_order s.node t.node) [
  | inl e ↦ inr (e, slides e)
  | inr k ↦ elim k [
    | inl l ↦ inl l
    | inr l ↦ absurd (false≢true (sym h ∙ ap (λ o. is_lt (ordering_then (ordering_then o (nat_cmp t.slide s.slide)) (nat_cmp t.span.lo s.span.lo))) (less t.node s.node l)))
  ]
]
  where
    second : s.node ≡ t.node → is_lt (ordering_then (nat_cmp t.slide s.slide) (nat_cmp t.span.lo s.span.lo)) ≡ false
    second e = sym (ap (λ o. is_lt (ordering_then (ordering_then o (nat_cmp t.slide s.slide)) (nat_cmp t.span.lo s.span.lo))) (equal t.node s.node (sym e))) ∙ h

    third : s.node ≡ t.node → s.slide ≡ t.slide → is_lt (nat_cmp t.span.lo s.span.lo) ≡ false
    third e f = sym (ap (λ o. is_lt (ordering_then o (nat_cmp t.span.lo s.span.lo))) (equal t.slide s.slide (sym f))) ∙ second e

    slides : s.node ≡ t.node → (s.slide < t.slide) ⊎ ((s.slide ≡ t.slide) × (s.span.lo ≤ t.span.lo))
    slides e = elim (cases_order s.slide t.slide) [
      | inl f ↦ inr (
        f,
        elim (cases_lt t.span.lo s.span.lo) [
          | inl l ↦ absurd (false≢true (sym (third e f) ∙ ap is_lt (less t.span.lo s.span.lo l)))
          | inr l ↦ l
        ],
      )
      | inr k ↦ elim k [
        | inl l ↦ inl l
        | inr l ↦ absurd (false≢true (sym (second e) ∙ ap (λ o. is_lt (ordering_then o (nat_cmp t.span.lo s.span.lo))) (less t.slide s.slide l)))
      ]
    ]

pub in_order : (s : Strand) (ts : List Strand) → IsSorted strand_cmp (s ∷ ts) → InOrder s ts
in_order s [] h = tt
in_order s (t ∷ ts) h = (comes_before s t (h 0 s (omega arith) (omega arith)), in_order t ts (rest_sorted strand_cmp s t ts h))

-- one that comes before and does not go on with the next is followed by it
pub followed : (s t : Strand) → ComesBefore s t → ((s.node ≡ t.node) → (s.slide ≡ t.slide) → (t.span.lo ≤ s.span.hi + 1) → ⊥) → Follows s t
followed s t (inl l) n = inl l
followed s t (inr (e, inl l)) n = inr (e, inl l)
followed s t (inr (e, inr (f, l))) n = inr (e, inr (f, elim (cases_lt (s.span.hi + 1) t.span.lo) [ inl k ↦ omega arith | inr k ↦ absurd (n e f k) ]))

pub follows_on : (s t u : Strand) → Follows s t → Follows t u → Follows s u
follows_on = by_on (λ p q. p.hi + 2 ≤ q.lo) (λ p q r a b. omega (arith, a, b, q.ordered))

pub precede_on : (ss : List Strand) (t u : Strand) → AllPrecede ss t → Follows t u → AllPrecede ss u
precede_on [] t u p f = tt
precede_on (s ∷ ss) t u p f = (follows_on s t u p.0 f, precede_on ss t u p.1 f)

pub precede_like : (ss : List Strand) (t u : Strand) → AllPrecede ss t → u.node ≡ t.node → u.slide ≡ t.slide → u.span.lo ≡ t.span.lo → AllPrecede ss u
precede_like [] t u p e f g = tt
precede_like (s ∷ ss) t u p e f g = (go p.0, precede_like ss t u p.1 e f g)
  where
    go : Follows s t → Follows s u
    go (inl l) = inl (omega arith)
    go (inr (d, inl l)) = inr (d ∙ sym e, inl (omega arith))
    go (inr (d, inr k)) = inr (d ∙ sym e, inr (k.0 ∙ sym f, omega (arith, k.1)))

pub precede_push : (ss : List Strand) (t u : Strand) → AllPrecede ss u → Follows t u → AllPrecede (ss ++ t ∷ []) u
precede_push [] t u p f = (f, tt)
precede_push (s ∷ ss) t u p f = (p.0, precede_push ss t u p.1 f)

follow_push : (s t : Strand) (ss : List Strand) → AllFollow s ss → Follows s t → AllFollow s (ss ++ t ∷ [])
follow_push s t [] p f = (f, tt)
follow_push s t (u ∷ us) p f = (p.0, follow_push s t us p.1 f)

pub ordered_push : (ss : List Strand) (t : Strand) → Ordered ss → AllPrecede ss t → Ordered (ss ++ t ∷ [])
ordered_push [] t p f = (tt, tt)
ordered_push (s ∷ ss) t p f = (follow_push s t ss p.0 f.0, ordered_push ss t p.1 f.1)

comes_on : (s t u : Strand) → ComesBefore s t → ComesBefore t u → ComesBefore s u
comes_on = by_on (λ p q. p.lo ≤ q.lo) (λ p q r a b. omega (arith, a, b))

in_order_from : (s t : Strand) (us : List Strand) → ComesBefore s t → InOrder t us → InOrder s us
in_order_from s t [] f p = tt
in_order_from s t (u ∷ us) f p = (comes_on s t u f p.0, p.1)

-- each strand of an ordered list is maximal

pub slid_node : (n d a : ℕ) (y : End) → is_slid n d a y ≡ true → n ≡ y.node
slid_node n d a y e = eqb-true n y.node (and_parts (nat_eq n y.node) (nat_eq (d + a) (y.base + TOP)) e).0

pub slid_base : (n d a : ℕ) (y : End) → is_slid n d a y ≡ true → d + a ≡ y.base + TOP
slid_base n d a y e = eqb-true (d + a) (y.base + TOP) (and_parts (nat_eq n y.node) (nat_eq (d + a) (y.base + TOP)) e).1

pub slid_from : (n d a : ℕ) (y : End) → n ≡ y.node → d + a ≡ y.base + TOP → is_slid n d a y ≡ true
slid_from n d a y e f = and_from (nat_eq n y.node) (nat_eq (d + a) (y.base + TOP)) (eq-eqb n y.node e) (eq-eqb (d + a) (y.base + TOP) f)

-- just before or just behind the strand
abbrev pub Beside : ℕ → Strand → Type 0
Beside a s = (a ≡ s.span.hi + 1) ⊎ (a + 1 ≡ s.span.lo)

apart_from : (s t : Strand) → Follows s t → s.node ≡ t.node → s.slide ≡ t.slide → s.span.hi + 2 ≤ t.span.lo
apart_from s t (inl l) e f = absurd (omega arith)
apart_from s t (inr (d, inl l)) e f = absurd (omega arith)
apart_from s t (inr (d, inr k)) e f = k.1

pub gives_in : (s : Strand) (a : ℕ) (y : End) → strand_gives s a y ≡ true → in_span s.span a ≡ true
gives_in s a y e = (and_parts (in_span s.span a) (is_slid s.node s.slide a y) e).0

gives_slid : (s : Strand) (a : ℕ) (y : End) → strand_gives s a y ≡ true → is_slid s.node s.slide a y ≡ true
gives_slid s a y e = (and_parts (in_span s.span a) (is_slid s.node s.slide a y) e).1

same_slide : (s t : Strand) (a : ℕ) (y : End) → is_slid s.node s.slide a y ≡ true → is_slid t.node t.slide a y ≡ true → s.slide ≡ t.slide
same_slide s t a y e f = omega (arith, slid_base s.node s.slide a y e, slid_base t.node t.slide a y f)

same_node : (s t : Strand) (a : ℕ) (y : End) → is_slid s.node s.slide a y ≡ true → is_slid t.node t.slide a y ≡ true → s.node ≡ t.node
same_node s t a y e f = slid_node s.node s.slide a y e ∙ sym (slid_node t.node t.slide a y f)

earlier_none : (s t : Strand) (a : ℕ) (y : End) → Follows s t → is_slid t.node t.slide a y ≡ true → Beside a t → strand_gives s a y ≡ true → ⊥
earlier_none s t a y f e (inl b) g = let h = apart_from s t f (same_node s t a y (gives_slid s a y g) e) (same_slide s t a y (gives_slid s a y g) e) in omega (arith, hi_of s.span a (gives_in s a y g), t.span.ordered)
earlier_none s t a y f e (inr b) g = let h = apart_from s t f (same_node s t a y (gives_slid s a y g) e) (same_slide s t a y (gives_slid s a y g) e) in omega (arith, hi_of s.span a (gives_in s a y g))

later_none : (s t : Strand) (a : ℕ) (y : End) → Follows s t → is_slid s.node s.slide a y ≡ true → Beside a s → strand_gives t a y ≡ true → ⊥
later_none s t a y f e (inl b) g = let h = apart_from s t f (same_node s t a y e (gives_slid t a y g)) (same_slide s t a y e (gives_slid t a y g)) in omega (arith, lo_of t.span a (gives_in t a y g))
later_none s t a y f e (inr b) g = let h = apart_from s t f (same_node s t a y e (gives_slid t a y g)) (same_slide s t a y e (gives_slid t a y g)) in omega (arith, lo_of t.span a (gives_in t a y g), s.span.ordered)

own_none : (s : Strand) (a : ℕ) (y : End) → Beside a s → strand_gives s a y ≡ true → ⊥
own_none s a y (inl b) g = omega (arith, hi_of s.span a (gives_in s a y g))
own_none s a y (inr b) g = omega (arith, lo_of s.span a (gives_in s a y g))

front_none : (ss : List Strand) (t : Strand) (a : ℕ) (y : End) → AllPrecede ss t → is_slid t.node t.slide a y ≡ true → Beside a t → strands_give ss a y ≡ true → ⊥
front_none [] t a y p e b g = false≢true g
front_none (s ∷ ss) t a y p e b g = elim (or_cases (strand_gives s a y) (strands_give ss a y) g) [
  | inl h ↦ earlier_none s t a y p.0 e b h
  | inr h ↦ front_none ss t a y p.1 e b h
]

back_none : (s : Strand) (ts : List Strand) (a : ℕ) (y : End) → AllFollow s ts → is_slid s.node s.slide a y ≡ true → Beside a s → strands_give ts a y ≡ true → ⊥
back_none s [] a y p e b g = false≢true g
back_none s (t ∷ ts) a y p e b g = elim (or_cases (strand_gives t a y) (strands_give ts a y) g) [
  | inl h ↦ later_none s t a y p.0 e b h
  | inr h ↦ back_none s ts a y p.1 e b h
]

follow_at : (f : List Strand) (s t : Strand) (g : List Strand) → AllFollow s (f ++ t ∷ g) → Follows s t
follow_at [] s t g p = p.0
follow_at (u ∷ f) s t g p = follow_at f s t g p.1

precede_at : (f : List Strand) (s : Strand) (g : List Strand) → Ordered (f ++ s ∷ g) → AllPrecede f s
precede_at [] s g p = tt
precede_at (u ∷ f) s g p = (follow_at f u s g p.0, precede_at f s g p.1)

after_at : (f : List Strand) (s : Strand) (g : List Strand) → Ordered (f ++ s ∷ g) → AllFollow s g
after_at [] s g p = p.0
after_at (u ∷ f) s g p = after_at f s g p.1

pub strands_give-append : (ss ts : List Strand) (a : ℕ) (y : End) → strands_give (ss ++ ts) a y ≡ (strands_give ss a y || strands_give ts a y)
strands_give-append ss ts a y = list_any-append (λ s. strand_gives s a y) ss ts

maximal_at : (f : List Strand) (s : Strand) (g : List Strand) → Ordered (f ++ s ∷ g) → IsMaximal (strands_give (f ++ s ∷ g)) s
maximal_at f s g p a y e b = false_from_ne_true (strands_give (f ++ s ∷ g) a y) (λ h. elim (or_cases (strands_give f a y) (strands_give (s ∷ g) a y) (sym (strands_give-append f (s ∷ g) a y) ∙ h)) [
  | inl i ↦ front_none f s a y (precede_at f s g p) e b i
  | inr i ↦ elim (or_cases (strand_gives s a y) (strands_give g a y) i) [
    | inl j ↦ own_none s a y b j
    | inr j ↦ back_none s g a y (after_at f s g p) e b j
  ]
])

maximal_from : (f g : List Strand) → Ordered (f ++ g) → (k : ℕ) (d : Strand) → k < length g → IsMaximal (strands_give (f ++ g)) (get_or g k d)
maximal_from f [] p k d l = absurd (omega arith)
maximal_from f (s ∷ g) p zero d l = maximal_at f s g p
maximal_from f (s ∷ g) p (suc k) d l =
    subst (λ t. IsMaximal (strands_give t) (get_or g k d)) (append_assoc f (s ∷ []) g)
    (maximal_from (f ++ s ∷ []) g (subst Ordered (sym (append_assoc f (s ∷ []) g)) p) k d (omega arith))

pub all_maximal : (ss : List Strand) → Ordered ss → All (IsMaximal (strands_give ss)) ss
all_maximal ss p = λ k d l. maximal_from [] ss p k d l

-- the strands so far, the current one and the rest

pub record Joining (out : List Strand) (current : Strand) (rest : List Strand) (whole : ℕ → End → Bool) : Type 0 where
  pub sorted : InOrder current rest
  pub ordered : Ordered out
  pub precede : AllPrecede out current
  pub same : (a : ℕ) (y : End) → (strands_give out a y || (strand_gives current a y || strands_give rest a y)) ≡ whole a y

pub goes_with : (out : List Strand) (s t j : Strand) (rest : List Strand) (whole : ℕ → End → Bool) → Joining out s (t ∷ rest) whole → j.node ≡ s.node → j.slide ≡ s.slide → j.span.lo ≡ s.span.lo → s.node ≡ t.node → s.slide ≡ t.slide → s.span.lo ≤ t.span.lo → ((a : ℕ) (y : End) → strand_gives j a y ≡ (strand_gives s a y || strand_gives t a y)) → Joining out j rest whole
goes_with out s t j rest whole v n d l tn td tl g = record {
  sorted = in_order_from j t rest (inr (n ∙ tn, inr (d ∙ td, omega arith))) v.sorted.1;
  ordered = v.ordered;
  precede = precede_like out s j v.precede n d l;
  same = λ a y. ap (λ b. strands_give out a y || (b || strands_give rest a y)) (g a y) ∙ go (strands_give out a y) (strand_gives s a y) (strand_gives t a y) (strands_give rest a y) ∙ v.same a y;
}
  where
    go : (o p q r : Bool) → (o || ((p || q) || r)) ≡ (o || (p || (q || r)))
    go true p q r = refl
    go false true q r = refl
    go false false q r = refl

pub goes_apart : (out : List Strand) (s t : Strand) (rest : List Strand) (whole : ℕ → End → Bool) → Joining out s (t ∷ rest) whole → ((s.node ≡ t.node) → (s.slide ≡ t.slide) → (t.span.lo ≤ s.span.hi + 1) → ⊥) → Joining (out ++ s ∷ []) t rest whole
goes_apart out s t rest whole v n =
    let f : Follows s t = followed s t v.sorted.0 n in
    record {
      sorted = v.sorted.1;
      ordered = ordered_push out s v.ordered v.precede;
      precede = precede_push out s t (precede_on out s t v.precede f) f;
      same = λ a y. ap (λ b. b || (strand_gives t a y || strands_give rest a y)) (strands_give-append out (s ∷ []) a y) ∙ go (strands_give out a y) (strand_gives s a y) (strand_gives t a y || strands_give rest a y) ∙ v.same a y;
    }
  where
    go : (o p q : Bool) → ((o || (p || false)) || q) ≡ (o || (p || q))
    go true p q = refl
    go false true q = refl
    go false false q = refl

pub joined_same : (out : List Strand) (s : Strand) (whole : ℕ → End → Bool) → Joining out s [] whole → (a : ℕ) (y : End) → strands_give (out ++ s ∷ []) a y ≡ whole a y
joined_same out s whole v a y = strands_give-append out (s ∷ []) a y ∙ v.same a y

pub joined_maximal : (out : List Strand) (s : Strand) (whole : ℕ → End → Bool) → Joining out s [] whole → All (IsMaximal (strands_give (out ++ s ∷ []))) (out ++ s ∷ [])
joined_maximal out s whole v = all_maximal (out ++ s ∷ []) (ordered_push out s v.ordered v.precede)

-- what the test whether a strand goes on says

pub is_on : (s t : Strand) → (nat_eq s.node t.node && (nat_eq s.slide t.slide && leb t.span.lo (s.span.hi + 1))) ≡ true → (s.node ≡ t.node) × (s.slide ≡ t.slide)
is_on s t e =
    let p = and_parts (nat_eq s.node t.node) (nat_eq s.slide t.slide && leb t.span.lo (s.span.hi + 1)) e in
    (eqb-true s.node t.node p.0, eqb-true s.slide t.slide (and_parts (nat_eq s.slide t.slide) (leb t.span.lo (s.span.hi + 1)) p.1).0)

pub not_on : (s t : Strand) → (nat_eq s.node t.node && (nat_eq s.slide t.slide && leb t.span.lo (s.span.hi + 1))) ≡ false → (s.node ≡ t.node) → (s.slide ≡ t.slide) → (t.span.lo ≤ s.span.hi + 1) → ⊥
not_on s t e n d l = false≢true (sym e ∙ and_from (nat_eq s.node t.node) (nat_eq s.slide t.slide && leb t.span.lo (s.span.hi + 1)) (eq-eqb s.node t.node n) (and_from (nat_eq s.slide t.slide) (leb t.span.lo (s.span.hi + 1)) (eq-eqb s.slide t.slide d) (le-leb t.span.lo (s.span.hi + 1) l)))

pub starts_first : (s t : Strand) → ComesBefore s t → s.node ≡ t.node → s.slide ≡ t.slide → s.span.lo ≤ t.span.lo
starts_first s t (inl l) e f = absurd (omega arith)
starts_first s t (inr (d, inl l)) e f = absurd (omega arith)
starts_first s t (inr (d, inr k)) e f = k.1

-- behind one that begins later than an address, all do
pub later_all : (xs : List Strand) (from i : ℕ) (s : Strand) → All (λ (t : Strand). from ≤ t.span.lo) xs → IsNonDecreasingBy (λ (t : Strand). t.span.lo) xs → i < length xs → s ≡ get_or xs i s → (s.span.lo ≡ from → ⊥) → All (λ (t : Strand). from < t.span.lo) (drop i xs)
later_all xs from i s later sorted l e n = λ k d m.
    let same : get_or (drop i xs) k d ≡ get_or xs (i + k) d = get_or-drop i xs k d in
    let within : i + k < length xs = omega (arith, m, length-drop i xs) in
    let here : s ≡ get_or xs i d = e ∙ get_or_default xs i s d l in
    let low : from ≤ (get_or xs i d).span.lo = later i d l in
    let at : s.span.lo ≡ (get_or xs i d).span.lo = ap (λ t. t.span.lo) here in
    let up : (get_or xs i d).span.lo ≤ (get_or xs (i + k) d).span.lo = sorted i (i + k) d (omega arith) within in
    let same_lo : (get_or (drop i xs) k d).span.lo ≡ (get_or xs (i + k) d).span.lo = ap (λ t. t.span.lo) same in
    elim (cases_order s.span.lo from) [
      | inl f ↦ absurd (n f)
      | inr o ↦ elim o [ inl f ↦ absurd (omega arith) | inr f ↦ omega arith ]
    ]
