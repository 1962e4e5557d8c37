-- Two lists in order that are merged: before each item of the one stand those of the other that begin below it.
use Rattle.std.proofs.Common.{◌≡◌, ℕ, zero, suc, ◌+◌, ◌<◌, ◌≤◌, ◌⊎◌, inl, inr, Bool, true, false, cond, not, nat_lt, List, [], ◌∷◌, ◌++◌, map, length, get_or, take, drop, refl, sym, ap, ◌∙◌, subst, arith, ltb-true}
use Rattle.std.specs.List.{filter, flat_map}
use Rattle.std.specs.List.Sorted.{IsNonDecreasingBy, IsPermutation}
use Rattle.std.proofs.lemmas.Bool.{cases_lt, ltb-false}
use Rattle.std.proofs.lemmas.List.{append-nil, append_assoc, drop_more, map-append}
use Rattle.std.proofs.lemmas.List.Elements.{filter-append}
use Rattle.std.proofs.lemmas.List.Sorted.{IsPermutation-refl, IsPermutation-trans, IsPermutation-map, IsPermutation-append_left, IsPermutation-append_right, IsPermutation-append_comm, IsPermutation-filter_both}
use Rattle.dn_base.proofs.Lists.{Each, each_implied, drop_all}

-- a number of the items does not fall along them, from a first one on
abbrev pub Ascends : {X : Type 0} → (X → ℕ) → ℕ → List X → Type 0
Ascends key n [] = Unit {0}
Ascends key n (x ∷ xs) = (n ≤ key x) × Ascends key (key x) xs

pub lower : {X : Type 0} (key : X → ℕ) (m n : ℕ) (xs : List X) → m ≤ n → Ascends key n xs → Ascends key m xs
lower key m n [] l h = tt
lower key m n (x ∷ xs) l h = let k : n ≤ key x = h.0 in ((omega (arith, l, k)), h.1)

above : {X : Type 0} (key : X → ℕ) (n : ℕ) (xs : List X) → Ascends key n xs → (j : ℕ) (d : X) → j < length xs → n ≤ key (get_or xs j d)
above key n [] h j d l = absurd (omega arith)
above key n (x ∷ xs) h zero d l = h.0
above key n (x ∷ xs) h (suc j) d l =
    let k : n ≤ key x = h.0 in
    let m = above key (key x) xs h.1 j d (omega arith) in
    omega (arith, k, m)

-- as std says it
pub ascends_to : {X : Type 0} (key : X → ℕ) (n : ℕ) (xs : List X) → Ascends key n xs → IsNonDecreasingBy key xs
ascends_to key n [] h i j d l k = absurd (omega arith)
ascends_to key n (x ∷ xs) h zero zero d l k = omega arith
ascends_to key n (x ∷ xs) h zero (suc j) d l k = above key (key x) xs h.1 j d (omega arith)
ascends_to key n (x ∷ xs) h (suc i) zero d l k = absurd (omega arith)
ascends_to key n (x ∷ xs) h (suc i) (suc j) d l k = ascends_to key (key x) xs h.1 i j d (omega arith) (omega arith)

pub ascends_from : {X : Type 0} (key : X → ℕ) (n : ℕ) (xs : List X) → IsNonDecreasingBy key xs → ((d : X) → 0 < length xs → n ≤ key (get_or xs 0 d)) → Ascends key n xs
ascends_from key n [] up first = tt
ascends_from key n (x ∷ xs) up first = (first x (omega arith), ascends_from key (key x) xs (λ i j d l k. up (suc i) (suc j) d (omega arith) (omega arith)) (λ d l. up 0 1 d (omega arith) (omega arith)))

-- one list behind another
joined : {X : Type 0} (key : X → ℕ) (n m : ℕ) (us vs : List X) → n ≤ m → Ascends key n us → Each (λ x. key x ≤ m) us → Ascends key m vs → Ascends key n (us ++ vs)
joined key n m [] vs l a e b = lower key n m vs l b
joined key n m (x ∷ us) vs l a e b = (a.0, joined key (key x) m us vs e.0 a.1 e.1 b)

-- items of one number before others
level : {X : Type 0} (key : X → ℕ) (k : ℕ) (us vs : List X) → Each (λ x. key x ≡ k) us → Ascends key k vs → Ascends key k (us ++ vs)
level key k [] vs e b = b
level key k (x ∷ us) vs e b =
    let s : key x ≡ k = e.0 in
    ((omega (arith, s)), subst (λ n. Ascends key n (us ++ vs)) (sym s) (level key k us vs e.1 b))

-- what is left of a list in order
kept : {X : Type 0} (key : X → ℕ) (p : X → Bool) (n : ℕ) (xs : List X) → Ascends key n xs → Ascends key n (filter p xs)
kept key p n [] h = tt
kept {X} key p n (x ∷ xs) h = by (p x) (kept key p (key x) xs h.1)
  where
    by : (b : Bool) → Ascends key (key x) (filter p xs) → Ascends key n (cond b (x ∷ filter p xs) (filter p xs))
    by true ih = (h.0, ih)
    by false ih = lower key n (key x) (filter p xs) h.0 ih

-- the items that begin at a number or above it
begun : {X : Type 0} (key : X → ℕ) (m n : ℕ) (xs : List X) → Ascends key n xs → Ascends key m (filter (λ x. not (nat_lt (key x) m)) xs)
begun key m n [] h = tt
begun {X} key m n (x ∷ xs) h = by (nat_lt (key x) m) refl (begun key m (key x) xs h.1) (kept key (λ y. not (nat_lt (key y) m)) (key x) xs h.1)
  where
    by : (b : Bool) → nat_lt (key x) m ≡ b → Ascends key m (filter (λ y. not (nat_lt (key y) m)) xs) → Ascends key (key x) (filter (λ y. not (nat_lt (key y) m)) xs) → Ascends key m (cond (not b) (x ∷ filter (λ y. not (nat_lt (key y) m)) xs) (filter (λ y. not (nat_lt (key y) m)) xs))
    by true e ih k = ih
    by false e ih k = (ltb-false (key x) m e, k)

-- a list at the place up to which a test passes
pub split_is : {X : Type 0} (p : X → Bool) (xs : List X) (i : ℕ) → i ≤ length xs → ((k : ℕ) (d : X) → k < i → p (get_or xs k d) ≡ true) → ((k : ℕ) (d : X) → i ≤ k → k < length xs → p (get_or xs k d) ≡ false) → (take i xs ≡ filter p xs) × (drop i xs ≡ filter (λ x. not (p x)) xs)
split_is p [] zero l a b = (refl, refl)
split_is p [] (suc i) l a b = absurd (omega arith)
split_is p (x ∷ xs) zero l a b =
    let e : p x ≡ false = b 0 x (omega arith) (omega arith) in
    let ih = split_is p xs 0 (omega arith) (λ k d m. absurd (omega arith)) (λ k d m n. b (suc k) d (omega arith) (omega arith)) in
    (ih.0 ∙ ap (λ c. cond c (x ∷ filter p xs) (filter p xs)) (sym e), ap (λ r. x ∷ r) ih.1 ∙ ap (λ c. cond (not c) (x ∷ filter (λ y. not (p y)) xs) (filter (λ y. not (p y)) xs)) (sym e))
split_is p (x ∷ xs) (suc i) l a b =
    let e : p x ≡ true = a 0 x (omega arith) in
    let ih = split_is p xs i (omega arith) (λ k d m. a (suc k) d (omega arith)) (λ k d m n. b (suc k) d (omega arith) (omega arith)) in
    (ap (λ r. x ∷ r) ih.0 ∙ ap (λ c. cond c (x ∷ filter p xs) (filter p xs)) (sym e), ih.1 ∙ ap (λ c. cond (not c) (x ∷ filter (λ y. not (p y)) xs) (filter (λ y. not (p y)) xs)) (sym e))

-- what is made of the items of two lists, of which the second has some items before each of the first: those that begin below it
abbrev pub woven : {X Y Z : Type 0} → (X → ℕ) → (Y → ℕ) → (X → List Z) → (Y → Z) → List X → List Y → List Z
woven first start f g [] ys = map g ys
woven first start f g (x ∷ xs) ys = map g (filter (λ y. nat_lt (start y) (first x)) ys) ++ (f x ++ woven first start f g xs (filter (λ y. not (nat_lt (start y) (first x))) ys))

-- one item of the first list more, as a loop puts it behind what is made
pub woven_more : {X Y Z : Type 0} (first : X → ℕ) (start : Y → ℕ) (f : X → List Z) (g : Y → Z) (made whole : List Z) (xs : List X) (i : ℕ) (d : X) (ys : List Y) → i < length xs → made ++ woven first start f g (drop i xs) ys ≡ whole → ((made ++ map g (filter (λ y. nat_lt (start y) (first (get_or xs i d))) ys)) ++ f (get_or xs i d)) ++ woven first start f g (drop (i + 1) xs) (filter (λ y. not (nat_lt (start y) (first (get_or xs i d)))) ys) ≡ whole
woven_more first start f g made whole xs i d ys l h =
    let x = get_or xs i d in
    let before = map g (filter (λ y. nat_lt (start y) (first x)) ys) in
    let rest = woven first start f g (drop (i + 1) xs) (filter (λ y. not (nat_lt (start y) (first x))) ys) in
    append_assoc (made ++ before) (f x) rest
    ∙ append_assoc made before (f x ++ rest)
    ∙ ap (λ k. made ++ woven first start f g k ys) (sym (drop_more xs i d l))
    ∙ h

-- and all of them
pub woven_all : {X Y Z : Type 0} (first : X → ℕ) (start : Y → ℕ) (f : X → List Z) (g : Y → Z) (made whole : List Z) (xs : List X) (i : ℕ) (ys : List Y) → length xs ≤ i → made ++ woven first start f g (drop i xs) ys ≡ whole → made ++ map g ys ≡ whole
woven_all first start f g made whole xs i ys l h = ap (λ k. made ++ woven first start f g k ys) (sym (drop_all i xs l)) ∙ h

moved : {Z : Type 0} (us vs ws : List Z) → IsPermutation (us ++ (vs ++ ws)) (vs ++ (us ++ ws))
moved us vs ws = subst (λ l. IsPermutation l (vs ++ (us ++ ws))) (append_assoc us vs ws) (subst (λ l. IsPermutation ((us ++ vs) ++ ws) l) (append_assoc vs us ws) (IsPermutation-append_left ws (us ++ vs) (vs ++ us) (IsPermutation-append_comm us vs)))

parted : {Z : Type 0} (one more all low high rest : List Z) → IsPermutation all (low ++ high) → IsPermutation (more ++ high) rest → IsPermutation ((one ++ more) ++ all) (low ++ (one ++ rest))
parted one more all low high rest halves h =
    IsPermutation-trans _ _ _ (IsPermutation-append_right (one ++ more) all (low ++ high) halves) (IsPermutation-trans _ _ _ (moved (one ++ more) low high) (IsPermutation-append_right low ((one ++ more) ++ high) (one ++ rest) (subst (λ l. IsPermutation l (one ++ rest)) (sym (append_assoc one more high)) (IsPermutation-append_right one (more ++ high) rest h))))

halves : {Y Z : Type 0} (p : Y → Bool) (g : Y → Z) (ys : List Y) → IsPermutation (map g ys) (map g (filter p ys) ++ map g (filter (λ y. not (p y)) ys))
halves p g ys = subst (λ l. IsPermutation (map g ys) l) (map-append g (filter p ys) (filter (λ y. not (p y)) ys)) (IsPermutation-map g ys (filter p ys ++ filter (λ y. not (p y)) ys) (IsPermutation-filter_both p (λ y. not (p y)) (λ y. refl) ys))

-- it is what is made of the one list and then of the other, in another order
pub woven_same : {X Y Z : Type 0} (first : X → ℕ) (start : Y → ℕ) (f : X → List Z) (g : Y → Z) (xs : List X) (ys : List Y) → IsPermutation (flat_map f xs ++ map g ys) (woven first start f g xs ys)
woven_same first start f g [] ys = IsPermutation-refl (map g ys)
woven_same first start f g (x ∷ xs) ys =
    let rest = filter (λ y. not (nat_lt (start y) (first x))) ys in
    parted (f x) (flat_map f xs) (map g ys) (map g (filter (λ y. nat_lt (start y) (first x)) ys)) (map g rest) (woven first start f g xs rest) (halves (λ y. nat_lt (start y) (first x)) g ys) (woven_same first start f g xs rest)

-- where a number of what is made of an item is that of the item
module _ {X Y Z : Type 0} (first : X → ℕ) (start : Y → ℕ) (f : X → List Z) (g : Y → Z) (key : Z → ℕ) (firsts : (x : X) → Each (λ z. key z ≡ first x) (f x)) (starts : (y : Y) → key (g y) ≡ start y) where
  mapped : (n : ℕ) (ys : List Y) → Ascends start n ys → Ascends key n (map g ys)
  mapped n [] h = tt
  mapped n (y ∷ ys) h =
      let s = starts y in
      let k : n ≤ start y = h.0 in
      ((omega (arith, s, k)), subst (λ m. Ascends key m (map g ys)) (sym s) (mapped (start y) ys h.1))

  lows : (m : ℕ) (ys : List Y) → Each (λ z. key z ≤ m) (map g (filter (λ y. nat_lt (start y) m) ys))
  lows m [] = tt
  lows m (y ∷ ys) = by (nat_lt (start y) m) refl (lows m ys)
    where
      by : (b : Bool) → nat_lt (start y) m ≡ b → Each (λ z. key z ≤ m) (map g (filter (λ y. nat_lt (start y) m) ys)) → Each (λ z. key z ≤ m) (map g (cond b (y ∷ filter (λ y. nat_lt (start y) m) ys) (filter (λ y. nat_lt (start y) m) ys)))
      by true e ih = let s = starts y in let l = ltb-true (start y) m e in ((omega (arith, s, l)), ih)
      by false e ih = ih

  -- of two lists in order it is in order
  pub woven_ascends : (n : ℕ) (xs : List X) (ys : List Y) → Ascends first n xs → Ascends start n ys → Ascends key n (woven first start f g xs ys)
  woven_ascends n [] ys a b = mapped n ys b
  woven_ascends n (x ∷ xs) ys a b =
      let low = filter (λ y. nat_lt (start y) (first x)) ys in
      let high = filter (λ y. not (nat_lt (start y) (first x))) ys in
      joined key n (first x) (map g low) (f x ++ woven first start f g xs high) a.0 (mapped n low (kept start (λ y. nat_lt (start y) (first x)) n ys b)) (lows (first x) ys)
      (level key (first x) (f x) (woven first start f g xs high) (firsts x) (woven_ascends (first x) xs high a.1 (begun start (first x) n ys b)))

  -- a test that only one number passes
  module _ (q : Z → Bool) (k : ℕ) (only : (z : Z) → q z ≡ true → key z ≡ k) where
    fails : (z : Z) → (key z ≡ k → ⊥) → q z ≡ false
    fails z other = by (q z) refl
      where
        by : (b : Bool) → q z ≡ b → b ≡ false
        by true e = absurd (other (only z e))
        by false e = refl

    dropped : (zs : List Z) → Each (λ z. q z ≡ false) zs → filter q zs ≡ []
    dropped [] h = refl
    dropped (z ∷ zs) h = ap (λ b. cond b (z ∷ filter q zs) (filter q zs)) h.0 ∙ dropped zs h.1

    each_append : (us vs : List Z) → Each (λ z. q z ≡ false) us → Each (λ z. q z ≡ false) vs → Each (λ z. q z ≡ false) (us ++ vs)
    each_append [] vs a b = b
    each_append (u ∷ us) vs a b = (a.0, each_append us vs a.1 b)

    -- items from a greater number on
    later : (n : ℕ) (xs : List X) → k < n → Ascends first n xs → Each (λ z. q z ≡ false) (flat_map f xs)
    later n [] l a = tt
    later n (x ∷ xs) l a =
        let m : n ≤ first x = a.0 in
        each_append (f x) (flat_map f xs) (each_implied (λ z. key z ≡ first x) (λ z. q z ≡ false) (λ z s. fails z (λ e. omega (arith, s, e, m, l))) (f x) (firsts x)) (later (first x) xs (omega (arith, m, l)) a.1)

    low_fails : (x : X) → first x ≤ k → (y : Y) → nat_lt (start y) (first x) ≡ true → q (g y) ≡ false
    low_fails x l y e = let s = starts y in let m = ltb-true (start y) (first x) e in fails (g y) (λ t. omega (arith, s, t, l, m))

    high_fails : (x : X) → k < first x → (y : Y) → nat_lt (start y) (first x) ≡ false → q (g y) ≡ false
    high_fails x l y e = let s = starts y in let m = ltb-false (start y) (first x) e in fails (g y) (λ t. omega (arith, s, t, l, m))

    -- those that are left out pass none
    same_passing : (r : Y → Bool) → ((y : Y) → r y ≡ false → q (g y) ≡ false) → (ys : List Y) → filter q (map g (filter r ys)) ≡ filter q (map g ys)
    same_passing r h [] = refl
    same_passing r h (y ∷ ys) = by (r y) refl (same_passing r h ys)
      where
        by : (b : Bool) → r y ≡ b → filter q (map g (filter r ys)) ≡ filter q (map g ys) → filter q (map g (cond b (y ∷ filter r ys) (filter r ys))) ≡ cond (q (g y)) (g y ∷ filter q (map g ys)) (filter q (map g ys))
        by true e ih = ap (λ l. cond (q (g y)) (g y ∷ l) l) ih
        by false e ih = ih ∙ ap (λ b. cond b (g y ∷ filter q (map g ys)) (filter q (map g ys))) (sym (h y e))

    -- none of those that are kept passes
    none_passing : (r : Y → Bool) → ((y : Y) → r y ≡ true → q (g y) ≡ false) → (ys : List Y) → filter q (map g (filter r ys)) ≡ []
    none_passing r h [] = refl
    none_passing r h (y ∷ ys) = by (r y) refl (none_passing r h ys)
      where
        by : (b : Bool) → r y ≡ b → filter q (map g (filter r ys)) ≡ [] → filter q (map g (cond b (y ∷ filter r ys) (filter r ys))) ≡ []
        by true e ih = ap (λ b. cond b (g y ∷ filter q (map g (filter r ys))) (filter q (map g (filter r ys)))) (h y e) ∙ ih
        by false e ih = ih

    not_true : (b : Bool) → not b ≡ true → b ≡ false
    not_true true e = sym e
    not_true false e = refl

    not_false : (b : Bool) → not b ≡ false → b ≡ true
    not_false true e = refl
    not_false false e = sym e

    -- what passes of parts that stand behind one another
    parts : (low one rest more high all : List Z) → filter q rest ≡ filter q more ++ filter q high → filter q low ++ (filter q one ++ (filter q more ++ filter q high)) ≡ (filter q one ++ filter q more) ++ filter q all → filter q (low ++ (one ++ rest)) ≡ filter q (one ++ more) ++ filter q all
    parts low one rest more high all h t =
        filter-append q low (one ++ rest)
        ∙ ap (λ l. filter q low ++ l) (filter-append q one rest ∙ ap (λ l. filter q one ++ l) h)
        ∙ t
        ∙ ap (λ l. l ++ filter q all) (sym (filter-append q one more))

    below_none : (low one more high all : List Z) → one ≡ [] → more ≡ [] → high ≡ [] → low ≡ all → low ++ (one ++ (more ++ high)) ≡ (one ++ more) ++ all
    below_none low one more high all a b c d = (λ i. d i ++ (a i ++ (b i ++ c i))) ∙ append-nil all ∙ (λ i. (sym a i ++ sym b i) ++ all)

    above_none : (low one more high all : List Z) → low ≡ [] → high ≡ all → low ++ (one ++ (more ++ high)) ≡ (one ++ more) ++ all
    above_none low one more high all a b = (λ i. a i ++ (one ++ (more ++ b i))) ∙ sym (append_assoc one more all)

    -- items that begin below the number pass none, or those that begin at it or above
    turn : (x : X) (xs : List X) (ys : List Y) → Ascends first (first x) xs → (k < first x) ⊎ (first x ≤ k) → filter q (map g (filter (λ y. nat_lt (start y) (first x)) ys)) ++ (filter q (f x) ++ (filter q (flat_map f xs) ++ filter q (map g (filter (λ y. not (nat_lt (start y) (first x))) ys)))) ≡ (filter q (f x) ++ filter q (flat_map f xs)) ++ filter q (map g ys)
    turn x xs ys a (inl l) =
        below_none _ _ _ _ _
        (dropped (f x) (each_implied (λ z. key z ≡ first x) (λ z. q z ≡ false) (λ z s. fails z (λ e. omega (arith, s, e, l))) (f x) (firsts x)))
        (dropped (flat_map f xs) (later (first x) xs l a))
        (none_passing (λ y. not (nat_lt (start y) (first x))) (λ y e. high_fails x l y (not_true (nat_lt (start y) (first x)) e)) ys)
        (same_passing (λ y. nat_lt (start y) (first x)) (λ y e. high_fails x l y e) ys)
    turn x xs ys a (inr l) =
        above_none _ _ _ _ _
        (none_passing (λ y. nat_lt (start y) (first x)) (λ y e. low_fails x l y e) ys)
        (same_passing (λ y. not (nat_lt (start y) (first x))) (λ y e. low_fails x l y (not_false (nat_lt (start y) (first x)) e)) ys)

    -- what passes of the one list, and then what passes of the other
    pub woven_passes : (n : ℕ) (xs : List X) (ys : List Y) → Ascends first n xs → filter q (woven first start f g xs ys) ≡ filter q (flat_map f xs) ++ filter q (map g ys)
    woven_passes n [] ys a = refl
    woven_passes n (x ∷ xs) ys a =
        let rest = filter (λ y. not (nat_lt (start y) (first x))) ys in
        parts (map g (filter (λ y. nat_lt (start y) (first x)) ys)) (f x) (woven first start f g xs rest) (flat_map f xs) (map g rest) (map g ys) (woven_passes (first x) xs rest a.1) (turn x xs ys a.1 (cases_lt k (first x)))
