-- Laws of lists: an item that is put last, the rest from a place on, what passes a test and where.
use Rattle.std.proofs.Common.{◌≡◌, ◌∙◌, ap, sym, refl, ℕ, zero, suc, ◌+◌, ◌<◌, ◌≤◌, nat_le, nat_lt, ◌==◌, if◌then◌else◌, Bool, true, false, ◌||◌, not, List, [], ◌∷◌, ◌++◌, map, filter, take, drop, get_or, length, position, Option, Some, None, is_some, IsTrue, slice_get, add-one, arith}
use Rattle.std.specs.List.{list_any, list_all, prefix_len}
use Rattle.std.proofs.Math.Seq.{drop-cons}
use Rattle.std.proofs.lemmas.Bool.{and_parts, leb-true, ne_eqb}
use Rattle.std.proofs.lemmas.Grind.{common_steps}
pub use Rattle.std.proofs.lemmas.List.{length-map, drop_all, nil_from_length}
pub use Rattle.std.proofs.lemmas.Option.{slice_get_past, slice_get_within}

-- an item that is put last

-- the list is longer by one
pub length-last : {X : Type 0} (xs : List X) (x : X) → length (xs ++ x ∷ []) ≡ length xs + 1
length-last [] x = refl
length-last (y ∷ ys) x = let h = length-last ys x in omega arith

-- what is made of it goes last
pub map-last : {X Y : Type 0} (f : X → Y) (xs : List X) (x : X) → map f (xs ++ x ∷ []) ≡ map f xs ++ f x ∷ []
map-last f [] x = refl
map-last f (y ∷ ys) x = simp (map-last f ys x)

-- where it passes a test too, each item does
pub list_all-last : {X : Type 0} (p : X → Bool) (xs : List X) (x : X) → IsTrue (list_all p xs) → IsTrue (p x) → IsTrue (list_all p (xs ++ x ∷ []))
list_all-last p [] x all e = rw e refl
list_all-last p (y ∷ ys) x all e =
    let b = and_parts (p y) (list_all p ys) all in
    rw (b.0, list_all-last p ys x b.1 e) refl

-- the rest of a list

-- the rest from a place on is the item there and what follows it
pub drop_at : {X : Type 0} (xs : List X) (i : ℕ) (x : X) → i < length xs → x ≡ get_or xs i x → drop i xs ≡ x ∷ drop (i + 1) xs
drop_at xs i x h at =
    drop-cons xs i x h
    ∙ ap (λ z. z ∷ drop (suc i) xs) (sym at)
    ∙ ap (λ n. x ∷ drop n xs) (sym (add-one i))

-- so many items, where there are no more
pub take_past : {X : Type 0} (xs : List X) (n : ℕ) → length xs ≤ n → take n xs ≡ xs
take_past [] zero l = refl
take_past [] (suc n) l = refl
take_past (x ∷ xs) zero l = absurd (omega arith)
take_past (x ∷ xs) (suc n) l = ap (λ t. x ∷ t) (take_past xs n (omega arith))

-- the item at a place is found there
pub slice_get-at : {X : Type 0} (xs : List X) (i : ℕ) (x : X) → i < length xs → x ≡ get_or xs i x → Some x ≡ slice_get xs i
slice_get-at [] i x l e = absurd (omega arith)
slice_get-at (y ∷ ys) zero x l e = ap Some e
slice_get-at (y ∷ ys) (suc i) x l e = slice_get-at ys i x (omega arith) e

-- at a place before the end there is an item
pub item_there : {X : Type 0} (xs : List X) (i : ℕ) → i < length xs → (x : X) × (slice_get xs i ≡ Some x)
item_there [] i l = absurd (omega arith)
item_there (x ∷ xs) zero l = (x, refl)
item_there (x ∷ xs) (suc i) l = item_there xs i (omega arith)

-- a list of no more than no item has none
pub nil_from_leb : {X : Type 0} (xs : List X) → IsTrue (nat_le (length xs) 0) → xs ≡ []
nil_from_leb [] h = refl
nil_from_leb (x ∷ xs) h = let l = leb-true (length (x ∷ xs)) 0 h in absurd (omega arith)

-- what passes a test

-- no item is left of a list exactly where no item passes
pub filter-none : {X : Type 0} (p : X → Bool) (xs : List X) → (length (filter p xs) == 0) ≡ not (list_any p xs)
filter-none p [] = refl
filter-none {X} p (x ∷ xs) = by (p x) (filter-none p xs)
  where
    by : (b : Bool) → (length (filter p xs) == 0) ≡ not (list_any p xs) → (length (if b then x ∷ filter p xs else filter p xs) == 0) ≡ not (b || list_any p xs)
    by true e = ne_eqb (suc (length (filter p xs))) 0 (λ f. absurd (omega (arith, f)))
    by false e = e

-- what is true of each item is true of the one at a place
pub list_all-at : {X : Type 0} (p : X → Bool) (xs : List X) (i : ℕ) (x : X) → IsTrue (list_all p xs) → slice_get xs i ≡ Some x → IsTrue (p x)
list_all-at p [] i x all at = cc
list_all-at p (y ∷ ys) zero x all at = let s : y ≡ x = cc in ap p (sym s) ∙ (and_parts (p y) (list_all p ys) all).0
list_all-at p (y ∷ ys) (suc i) x all at = list_all-at p ys i x (and_parts (p y) (list_all p ys) all).1 at

-- where each item that passes one test passes another, all that pass the first pass the second
pub list_all-implied : {X : Type 0} (p q : X → Bool) → ((x : X) → IsTrue (p x) → IsTrue (q x)) → (xs : List X) → IsTrue (list_all p xs) → IsTrue (list_all q xs)
list_all-implied p q implies [] all = refl
list_all-implied p q implies (x ∷ xs) all =
    let b = and_parts (p x) (list_all p xs) all in
    rw (implies x b.0) (list_all-implied p q implies xs b.1)

-- a test of what is made of each item is a test of the items
pub list_any-map : {X Y : Type 0} (f : X → Y) (p : Y → Bool) (xs : List X) → list_any p (map f xs) ≡ list_any (λ x. p (f x)) xs
list_any-map f p [] = refl
list_any-map f p (x ∷ xs) = simp (list_any-map f p xs)

-- what holds of each item

-- it holds of the first, and of each behind it
abbrev pub Each : {X : Type 0} → (X → Type 0) → List X → Type 0
Each P [] = Unit {0}
Each P (x ∷ xs) = P x × Each P xs

-- what follows from it of any item holds of each
pub each_implied : {X : Type 0} (P Q : X → Type 0) → ((x : X) → P x → Q x) → (xs : List X) → Each P xs → Each Q xs
each_implied P Q f [] h = tt
each_implied P Q f (x ∷ xs) h = (f x h.0, each_implied P Q f xs h.1)

-- places

-- the first place at which a test passes is within the list exactly where it passes somewhere
pub prefix_len-any : {X : Type 0} (p : X → Bool) (xs : List X) → nat_lt (prefix_len (λ x. not (p x)) xs) (length xs) ≡ list_any p xs
prefix_len-any p [] = refl
prefix_len-any p (x ∷ xs) = let h = prefix_len-any p xs in grind (arith, common_steps, h)

-- a test that passes at no place passes nowhere
pub position-none : {X : Type 0} (p : X → Bool) (xs : List X) → position p xs ≡ None → list_any p xs ≡ false
position-none p xs e = let h = prefix_len-any p xs in grind (arith, common_steps, h)

-- the same, by the test on the place
pub position-nowhere : {X : Type 0} (p : X → Bool) (xs : List X) → is_some (position p xs) ≡ false → list_any p xs ≡ false
position-nowhere p xs none = go (position p xs) refl none
  where
    go : (o : Option ℕ) → position p xs ≡ o → is_some o ≡ false → list_any p xs ≡ false
    go None at e = position-none p xs at
    go (Some n) at e = cc

-- the first place of a value among what is made of a list is that of an item that makes it
pub prefix_len-map : {X Y : Type 0} (f : X → Y) (p : Y → Bool) (xs : List X) → prefix_len p (map f xs) ≡ prefix_len (λ x. p (f x)) xs
prefix_len-map f p [] = refl
prefix_len-map f p (x ∷ xs) = simp (prefix_len-map f p xs)

-- and so is any place
pub position-map : {X Y : Type 0} (f : X → Y) (p : Y → Bool) (xs : List X) → position p (map f xs) ≡ position (λ x. p (f x)) xs
position-map f p xs = simp (prefix_len-map f (λ y. not (p y)) xs, length-map xs f)
