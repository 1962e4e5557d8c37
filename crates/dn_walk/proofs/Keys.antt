-- The orders in which map blocks and walks are sorted.
use Rattle.std.proofs.Common.{◌≡◌, ℕ, ◌<◌, ◌≤◌, ◌⊎◌, inl, inr, Bool, true, false, cond, ◌&&◌, ◌||◌, nat_lt, ◌==◌, List, map, refl, sym, ap, ◌∙◌, subst, arith, ltb-true, eqb-true}
use Rattle.std.proofs.lemmas.Bool.{ltb-false, le-ltb, eq-eqb}
use Rattle.std.specs.Cmp.{IsStrictWeakOrder}
use Rattle.std.specs.declared.cmp.Ordering.{Ordering}
use Rattle.std.specs.declared.cmp.Ordering.TheVariants.{Less, Equal, Greater}
use Rattle.std.specs.Ordering.{nat_cmp, ordering_then, is_lt}
use Rattle.std.specs.List.Sorted.{IsSortedBy, IsStableBy, IsStableByKey}
use Rattle.std.proofs.lemmas.List.Sorted.{IsStrictWeakOrder-by_number}
use Rattle.dn_base.proofs.Booleans.{and-false}
use Rattle.dn_net.specs.declared.entries.Place.{Place}
use Rattle.dn_net.specs.Walks.{in_order}
use Rattle.dn_walk.specs.declared.walks.WalkRow.{WalkRow}
use Rattle.dn_walk.specs.Rows.{BareWalk, row_view}
use Rattle.dn_walk.specs.Levels.{bare_before}
use Rattle.dn_walk.proofs.Sorting.{sorted_is, map_in_order}

-- first by a number, then by another order
abbrev lex : {X : Type 0} → (X → ℕ) → (X → X → Bool) → X → X → Bool
lex f r x y = nat_lt (f x) (f y) || ((f x == f y) && r x y)

lex_from : {X : Type 0} (f : X → ℕ) (r : X → X → Bool) (x y : X) → lex f r x y ≡ false → (f y < f x) ⊎ ((f x ≡ f y) × (r x y ≡ false))
lex_from f r x y h = by (nat_lt (f x) (f y)) refl (f x == f y) refl (r x y) refl h
  where
    above : (a b : ℕ) → b ≤ a → (b < a) ⊎ (a ≡ b)
    above a b l = grind arith

    differ : (a b : ℕ) → (a == b) ≡ false → a ≡ b → ⊥
    differ a b e s = let t : true ≡ false = sym (eq-eqb a b s) ∙ e in cc

    by : (a : Bool) → nat_lt (f x) (f y) ≡ a → (b : Bool) → (f x == f y) ≡ b → (c : Bool) → r x y ≡ c → (a || (b && c)) ≡ false → (f y < f x) ⊎ ((f x ≡ f y) × (r x y ≡ false))
    by true e b g c k h = cc
    by false e true g true k h = cc
    by false e true g false k h = inr (eqb-true _ _ g, k)
    by false e false g c k h = elim (above (f x) (f y) (ltb-false _ _ e)) [ inl l ↦ inl l | inr s ↦ absurd (differ (f x) (f y) g s) ]

lex_to : {X : Type 0} (f : X → ℕ) (r : X → X → Bool) (x y : X) → (f y < f x) ⊎ ((f x ≡ f y) × (r x y ≡ false)) → lex f r x y ≡ false
lex_to f r x y (inl l) = rw (below (f x) (f y) l, differs (f x) (f y) l) refl
  where
    below : (a b : ℕ) → b < a → nat_lt a b ≡ false
    below a b l = le-ltb a b (omega arith)

    never : (a b : ℕ) (e : Bool) → (a == b) ≡ e → b < a → e ≡ false
    never a b true e l = let s = eqb-true a b e in absurd (omega arith)
    never a b false e l = refl

    differs : (a b : ℕ) → b < a → (a == b) ≡ false
    differs a b l = never a b (a == b) refl l
lex_to f r x y (inr h) = rw (not_below (f x) (f y) h.0, h.1) (and-false (f x == f y))
  where
    not_below : (a b : ℕ) → a ≡ b → nat_lt a b ≡ false
    not_below a b s = le-ltb a b (omega arith)

lex_weak : {X : Type 0} (f : X → ℕ) (r : X → X → Bool) → IsStrictWeakOrder r → IsStrictWeakOrder (lex f r)
lex_weak {X} f r o = record { one_way = one_way; chain = chain }
  where
    one_way : (x y : X) → lex f r x y ≡ true → lex f r y x ≡ false
    one_way x y h = by (nat_lt (f x) (f y)) refl (f x == f y) refl (r x y) refl h
      where
        by : (a : Bool) → nat_lt (f x) (f y) ≡ a → (b : Bool) → (f x == f y) ≡ b → (c : Bool) → r x y ≡ c → (a || (b && c)) ≡ true → lex f r y x ≡ false
        by true e b g c k h = lex_to f r y x (inl (ltb-true _ _ e))
        by false e true g true k h = lex_to f r y x (inr (sym (eqb-true _ _ g), o.one_way x y k))
        by false e true g false k h = cc
        by false e false g c k h = cc

    chain : (x y z : X) → lex f r x y ≡ false → lex f r y z ≡ false → lex f r x z ≡ false
    chain x y z h k = lex_to f r x z (by (lex_from f r x y h) (lex_from f r y z k))
      where
        by : (f y < f x) ⊎ ((f x ≡ f y) × (r x y ≡ false)) → (f z < f y) ⊎ ((f y ≡ f z) × (r y z ≡ false)) → (f z < f x) ⊎ ((f x ≡ f z) × (r x z ≡ false))
        by (inl a) (inl b) = inl (omega arith)
        by (inl a) (inr b) = let e = b.0 in inl (omega arith)
        by (inr a) (inl b) = let e = a.0 in inl (omega arith)
        by (inr a) (inr b) = inr (a.0 ∙ b.0, o.chain x y z a.1 b.1)

pub before_weak : {X : Type 0} (g : X → BareWalk) → IsStrictWeakOrder (λ x y. bare_before (g x) (g y))
before_weak g = lex_weak (λ x. (g x).start) (λ x y. nat_lt (g x).lo (g y).lo || (((g x).lo == (g y).lo) && nat_lt (g x).hi (g y).hi)) (lex_weak (λ x. (g x).lo) (λ x y. nat_lt (g x).hi (g y).hi) (IsStrictWeakOrder-by_number (λ x. (g x).hi)))

-- the order of the three numbers as one
abbrev row_cmp : WalkRow → WalkRow → Ordering
row_cmp r s = ordering_then (ordering_then (nat_cmp r.start s.start) (nat_cmp r.span.lo s.span.lo)) (nat_cmp r.span.hi s.span.hi)

by_numbers : (a a' b b' c c' : ℕ) → is_lt (ordering_then (ordering_then (nat_cmp a a') (nat_cmp b b')) (nat_cmp c c')) ≡ (nat_lt a a' || ((a == a') && (nat_lt b b' || ((b == b') && nat_lt c c'))))
by_numbers a a' b b' c c' = by (nat_lt a a') (a == a') (nat_lt b b') (b == b') (nat_lt c c') (c == c')
  where
    by : (p q r s t u : Bool) → is_lt (ordering_then (ordering_then (cond p Less (cond q Equal Greater)) (cond r Less (cond s Equal Greater))) (cond t Less (cond u Equal Greater))) ≡ (p || (q && (r || (s && t))))
    by true q r s t u = refl
    by false true true s t u = refl
    by false true false true true u = refl
    by false true false true false true = refl
    by false true false true false false = refl
    by false true false false t u = refl
    by false false r s t u = refl

same_order : ◌≡◌ {A = WalkRow → WalkRow → Bool} (λ r s. is_lt (row_cmp r s)) (λ r s. bare_before (row_view r) (row_view s))
same_order = λ i r s. by_numbers r.start s.start r.span.lo s.span.lo r.span.hi s.span.hi i

-- rows after a stable sort by their three numbers
pub rows_in_order : (xs ys : List WalkRow) → IsSortedBy (λ r s. is_lt (row_cmp r s)) ys → IsStableBy (λ r s. is_lt (row_cmp r s)) xs ys → map row_view ys ≡ in_order bare_before (map row_view xs)
rows_in_order xs ys sorted stable =
    let lt : WalkRow → WalkRow → Bool = λ r s. bare_before (row_view r) (row_view s) in
    ap (map row_view) (sorted_is lt (before_weak row_view) xs ys (subst (λ f. IsSortedBy f ys) same_order sorted) (subst (λ f. IsStableBy f xs ys) same_order stable))
    ∙ map_in_order row_view lt bare_before (λ r s. refl) xs

by_number : (a b : ℕ) → is_lt (nat_cmp a b) ≡ nat_lt a b
by_number a b = by (nat_lt a b) (a == b)
  where
    by : (p q : Bool) → is_lt (cond p Less (cond q Equal Greater)) ≡ p
    by true q = refl
    by false true = refl
    by false false = refl

same_place_order : ◌≡◌ {A = Place → Place → Bool} (λ p q. is_lt (nat_cmp p.block.lo q.block.lo)) (λ p q. nat_lt p.block.lo q.block.lo)
same_place_order = λ i p q. by_number p.block.lo q.block.lo i

-- places after a stable sort by the first addresses of their blocks: those with one first address stand as they stood
pub places_stay : (ps order : List Place) → IsStableByKey (λ p. p.block.lo) nat_cmp ps order → IsStableBy (λ p q. nat_lt p.block.lo q.block.lo) ps order
places_stay ps order stable = subst (λ f. IsStableBy f ps order) same_place_order stable
