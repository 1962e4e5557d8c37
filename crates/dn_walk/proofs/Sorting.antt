-- What a stable sort makes is the list in order.
use Rattle.std.proofs.Common.{◌≡◌, suc, ◌+◌, inl, inr, Bool, true, false, cond, if◌then◌else◌, not, ◌&&◌, List, [], ◌∷◌, map, length, get_or, refl, sym, ap, ◌∙◌, subst, arith}
use Rattle.std.specs.Cmp.{IsStrictWeakOrder}
use Rattle.std.specs.List.{filter}
use Rattle.std.specs.List.Sorted.{IsSortedBy, IsStableBy, ties}
use Rattle.dn_base.proofs.Lists.{Each, each_implied}
use Rattle.dn_net.specs.Chain.{Member}
use Rattle.dn_net.specs.Walks.{put_in, in_order}
use Rattle.dn_walk.proofs.Pairs.{Pairwise}

-- no item comes before one that stands in front of it
abbrev pub Rises : {X : Type 0} → (X → X → Bool) → List X → Type 0
Rises lt [] = Unit {0}
Rises lt (x ∷ xs) = Each (λ y. lt y x ≡ false) xs × Rises lt xs

each_put : {X : Type 0} (lt : X → X → Bool) (P : X → Type 0) (x : X) (ys : List X) → P x → Each P ys → Each P (put_in lt x ys)
each_put lt P x [] p h = (p, tt)
each_put lt P x (y ∷ ys) p h = by (lt y x) (each_put lt P x ys p h.1)
  where
    by : (b : Bool) → Each P (put_in lt x ys) → Each P (if b then y ∷ put_in lt x ys else x ∷ (y ∷ ys))
    by true ih = (h.0, ih)
    by false ih = (p, h)

rises_put : {X : Type 0} (lt : X → X → Bool) → IsStrictWeakOrder lt → (x : X) (ys : List X) → Rises lt ys → Rises lt (put_in lt x ys)
rises_put lt o x [] h = (tt, tt)
rises_put lt o x (y ∷ ys) h = by (lt y x) refl (rises_put lt o x ys h.1)
  where
    by : (b : Bool) → lt y x ≡ b → Rises lt (put_in lt x ys) → Rises lt (if b then y ∷ put_in lt x ys else x ∷ (y ∷ ys))
    by true e ih = (each_put lt (λ z. lt z y ≡ false) x ys (o.one_way y x e) h.0, ih)
    by false e ih = ((e, each_implied (λ z. lt z y ≡ false) (λ z. lt z x ≡ false) (λ z f. o.chain z y x f e) ys h.0), h)

rises_in_order : {X : Type 0} (lt : X → X → Bool) → IsStrictWeakOrder lt → (xs : List X) → Rises lt (in_order lt xs)
rises_in_order lt o [] = tt
rises_in_order lt o (x ∷ xs) = rises_put lt o x (in_order lt xs) (rises_in_order lt o xs)

not_false : (b : Bool) → (b ≡ true → b ≡ false) → b ≡ false
not_false true f = f refl
not_false false f = refl

tied : {X : Type 0} (lt : X → X → Bool) (t x : X) → lt t x ≡ false → lt x t ≡ false → ties lt t x ≡ true
tied lt t x e f = rw (e, f) refl

ties_parts : {X : Type 0} (lt : X → X → Bool) (t x : X) → ties lt t x ≡ true → (lt t x ≡ false) × (lt x t ≡ false)
ties_parts lt t x h = by (lt t x) (lt x t) refl refl h
  where
    by : (a b : Bool) → lt t x ≡ a → lt x t ≡ b → (not a && not b) ≡ true → (lt t x ≡ false) × (lt x t ≡ false)
    by false false e f g = (e, f)
    by false true e f g = cc
    by true b e f g = cc

-- two items that tie with one tie
not_both : {X : Type 0} (lt : X → X → Bool) → IsStrictWeakOrder lt → (t x y : X) → lt y x ≡ true → ties lt t x ≡ true → ties lt t y ≡ true → ⊥
not_both lt o t x y e f g =
    let p = ties_parts lt t x f in
    let q = ties_parts lt t y g in
    let r : true ≡ false = sym e ∙ o.chain y t x q.1 p.0 in
    cc

stable_put : {X : Type 0} (lt : X → X → Bool) → IsStrictWeakOrder lt → (t x : X) (ys : List X) → filter (ties lt t) (put_in lt x ys) ≡ filter (ties lt t) (x ∷ ys)
stable_put lt o t x [] = refl
stable_put {X} lt o t x (y ∷ ys) = by (lt y x) refl (stable_put lt o t x ys)
  where
    swapped : (a b : Bool) (zs : List X) → (a ≡ true → b ≡ true → ⊥) → cond b (y ∷ cond a (x ∷ zs) zs) (cond a (x ∷ zs) zs) ≡ cond a (x ∷ cond b (y ∷ zs) zs) (cond b (y ∷ zs) zs)
    swapped true true zs f = absurd (f refl refl)
    swapped true false zs f = refl
    swapped false true zs f = refl
    swapped false false zs f = refl

    by : (b : Bool) → lt y x ≡ b → filter (ties lt t) (put_in lt x ys) ≡ filter (ties lt t) (x ∷ ys) → filter (ties lt t) (if b then y ∷ put_in lt x ys else x ∷ (y ∷ ys)) ≡ filter (ties lt t) (x ∷ (y ∷ ys))
    by false e ih = refl
    by true e ih = ap (λ l. cond (ties lt t y) (y ∷ l) l) ih ∙ swapped (ties lt t x) (ties lt t y) (filter (ties lt t) ys) (λ f g. not_both lt o t x y e f g)

stable_in_order : {X : Type 0} (lt : X → X → Bool) → IsStrictWeakOrder lt → (t : X) (xs : List X) → filter (ties lt t) (in_order lt xs) ≡ filter (ties lt t) xs
stable_in_order lt o t [] = refl
stable_in_order lt o t (x ∷ xs) = stable_put lt o t x (in_order lt xs) ∙ ap (λ l. cond (ties lt t x) (x ∷ l) l) (stable_in_order lt o t xs)

-- the first item that passes a test is an item
passed_first : {X : Type 0} (p : X → Bool) (P : X → Type 0) (y : X) (rest zs : List X) → filter p zs ≡ y ∷ rest → Each P zs → P y
passed_first p P y rest [] e h = cc
passed_first {X} p P y rest (z ∷ zs) e h = by (p z) e (λ f. passed_first p P y rest zs f h.1)
  where
    by : (b : Bool) → cond b (z ∷ filter p zs) (filter p zs) ≡ y ∷ rest → (filter p zs ≡ y ∷ rest → P y) → P y
    by true f ih = let s : z ≡ y = cc in subst P s h.0
    by false f ih = ih f

rest_same : {X : Type 0} (b : Bool) (y z : X) (ys zs : List X) → y ≡ z → cond b (y ∷ ys) ys ≡ cond b (z ∷ zs) zs → ys ≡ zs
rest_same true y z ys zs e f = cc
rest_same false y z ys zs e f = f

one_rising : {X : Type 0} (lt : X → X → Bool) → IsStrictWeakOrder lt → (ys zs : List X) → Rises lt ys → Rises lt zs → ((t : X) → filter (ties lt t) ys ≡ filter (ties lt t) zs) → ys ≡ zs
one_rising lt o [] [] h k e = refl
one_rising lt o [] (z ∷ zs) h k e =
    let i = not_false (lt z z) (λ f. o.one_way z z f) in
    let f : [] ≡ cond (ties lt z z) (z ∷ filter (ties lt z) zs) (filter (ties lt z) zs) = e z in
    let g = rw (tied lt z z i i) at f in
    cc
one_rising lt o (y ∷ ys) [] h k e =
    let i = not_false (lt y y) (λ f. o.one_way y y f) in
    let f : cond (ties lt y y) (y ∷ filter (ties lt y) ys) (filter (ties lt y) ys) ≡ [] = e y in
    let g = rw (tied lt y y i i) at f in
    cc
one_rising {X} lt o (y ∷ ys) (z ∷ zs) h k e =
    let s = same (ties lt y z) refl in
    ap (λ x. x ∷ ys) s ∙ ap (λ l. z ∷ l) (one_rising lt o ys zs h.1 k.1 (λ t. rest_same (ties lt t y) y z (filter (ties lt t) ys) (filter (ties lt t) zs) s (e t ∙ ap (λ x. cond (ties lt t x) (z ∷ filter (ties lt t) zs) (filter (ties lt t) zs)) (sym s))))
  where
    reflexive : (x : X) → ties lt x x ≡ true
    reflexive x = let i = not_false (lt x x) (λ f. o.one_way x x f) in tied lt x x i i

    at_y : (b : Bool) → ties lt y z ≡ b → y ∷ filter (ties lt y) ys ≡ cond b (z ∷ filter (ties lt y) zs) (filter (ties lt y) zs)
    at_y b f = ap (λ a. cond a (y ∷ filter (ties lt y) ys) (filter (ties lt y) ys)) (sym (reflexive y)) ∙ e y ∙ ap (λ a. cond a (z ∷ filter (ties lt y) zs) (filter (ties lt y) zs)) f

    at_z : (b : Bool) → ties lt z y ≡ b → cond b (y ∷ filter (ties lt z) ys) (filter (ties lt z) ys) ≡ z ∷ filter (ties lt z) zs
    at_z b f = ap (λ a. cond a (y ∷ filter (ties lt z) ys) (filter (ties lt z) ys)) (sym f) ∙ e z ∙ ap (λ a. cond a (z ∷ filter (ties lt z) zs) (filter (ties lt z) zs)) (reflexive z)

    other : (b : Bool) → ties lt z y ≡ b → lt y z ≡ false → (y ≡ z)
    other true f g = let r = at_z true f in cc
    other false f g =
        let i = passed_first (ties lt z) (λ x. lt x y ≡ false) z (filter (ties lt z) zs) ys (at_z false f) h.0 in
        let j : true ≡ false = sym (tied lt z y i g) ∙ f in
        cc

    same : (b : Bool) → ties lt y z ≡ b → y ≡ z
    same true f = let r = at_y true f in cc
    same false f = other (ties lt z y) refl (passed_first (ties lt y) (λ x. lt x z ≡ false) y (filter (ties lt y) ys) zs (sym (at_y false f)) k.0)

-- from neighbours to all
rises_from : {X : Type 0} (lt : X → X → Bool) → IsStrictWeakOrder lt → (xs : List X) → IsSortedBy lt xs → Rises lt xs
rises_from lt o [] s = tt
rises_from lt o (x ∷ []) s = (tt, tt)
rises_from {X} lt o (x ∷ (y ∷ ys)) s =
    let e : lt y x ≡ false = s 0 x (omega arith) (omega arith) in
    let r = rises_from lt o (y ∷ ys) tail in
    ((e, each_implied (λ z. lt z y ≡ false) (λ z. lt z x ≡ false) (λ z f. o.chain z y x f e) ys r.0), r)
  where
    tail : IsSortedBy lt (y ∷ ys)
    tail k d l m =
        let e : suc k + 1 ≡ suc (k + 1) = omega arith in
        subst (λ n. lt (get_or (x ∷ (y ∷ ys)) n d) (get_or (y ∷ ys) k d) ≡ false) e (s (suc k) d (omega arith) (omega arith))

-- a list in which no item comes before an earlier one, and items that tie stand as they stood, is the list in order
pub rising_is : {X : Type 0} (lt : X → X → Bool) → IsStrictWeakOrder lt → (xs ys : List X) → Rises lt ys → ((t : X) → filter (ties lt t) ys ≡ filter (ties lt t) xs) → ys ≡ in_order lt xs
rising_is lt o xs ys r e = one_rising lt o ys (in_order lt xs) r (rises_in_order lt o xs) (λ t. e t ∙ sym (stable_in_order lt o t xs))

-- what a stable sort gives
pub sorted_is : {X : Type 0} (lt : X → X → Bool) → IsStrictWeakOrder lt → (xs ys : List X) → IsSortedBy lt ys → IsStableBy lt xs ys → ys ≡ in_order lt xs
sorted_is lt o xs ys s t = rising_is lt o xs ys (rises_from lt o ys s) t

map_put : {X Y : Type 0} (f : X → Y) (lt : X → X → Bool) (lt' : Y → Y → Bool) → ((x y : X) → lt x y ≡ lt' (f x) (f y)) → (x : X) (ys : List X) → map f (put_in lt x ys) ≡ put_in lt' (f x) (map f ys)
map_put f lt lt' e x [] = refl
map_put f lt lt' e x (y ∷ ys) = by (lt y x) (lt' (f y) (f x)) (e y x) (map_put f lt lt' e x ys)
  where
    by : (a b : Bool) → a ≡ b → map f (put_in lt x ys) ≡ put_in lt' (f x) (map f ys) → map f (if a then y ∷ put_in lt x ys else x ∷ (y ∷ ys)) ≡ (if b then f y ∷ put_in lt' (f x) (map f ys) else f x ∷ (f y ∷ map f ys))
    by true true g ih = ap (λ l. f y ∷ l) ih
    by true false g ih = cc
    by false true g ih = cc
    by false false g ih = refl

-- a list in order, seen through a function that keeps the order
pub map_in_order : {X Y : Type 0} (f : X → Y) (lt : X → X → Bool) (lt' : Y → Y → Bool) → ((x y : X) → lt x y ≡ lt' (f x) (f y)) → (xs : List X) → map f (in_order lt xs) ≡ in_order lt' (map f xs)
map_in_order f lt lt' e [] = refl
map_in_order f lt lt' e (x ∷ xs) = map_put f lt lt' e x (in_order lt xs) ∙ ap (put_in lt' (f x)) (map_in_order f lt lt' e xs)

length_put : {X : Type 0} (lt : X → X → Bool) (x : X) (ys : List X) → length (put_in lt x ys) ≡ suc (length ys)
length_put lt x [] = refl
length_put lt x (y ∷ ys) = by (lt y x) (length_put lt x ys)
  where
    by : (b : Bool) → length (put_in lt x ys) ≡ suc (length ys) → length (if b then y ∷ put_in lt x ys else x ∷ (y ∷ ys)) ≡ suc (suc (length ys))
    by true ih = ap suc ih
    by false ih = refl

-- it has as many items
pub length_in_order : {X : Type 0} (lt : X → X → Bool) (xs : List X) → length (in_order lt xs) ≡ length xs
length_in_order lt [] = refl
length_in_order lt (x ∷ xs) = length_put lt x (in_order lt xs) ∙ ap suc (length_in_order lt xs)

each_member : {X : Type 0} (P : X → Type 0) (xs : List X) → Each P xs → (y : X) → Member y xs → P y
each_member P [] h y m = absurd m
each_member P (x ∷ xs) h y (inl e) = subst P e h.0
each_member P (x ∷ xs) h y (inr m) = each_member P xs h.1 y m

-- none of its items comes before an earlier one
pub in_order_pairs : {X : Type 0} (lt : X → X → Bool) → IsStrictWeakOrder lt → (xs : List X) → Pairwise (λ x y. lt y x ≡ false) (in_order lt xs)
in_order_pairs {X} lt o xs = pairs (in_order lt xs) (rises_in_order lt o xs)
  where
    pairs : (ys : List X) → Rises lt ys → Pairwise (λ x y. lt y x ≡ false) ys
    pairs [] h = tt
    pairs (y ∷ ys) h = ((λ z m. each_member (λ z. lt z y ≡ false) ys h.0 z m), pairs ys h.1)
