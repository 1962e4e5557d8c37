-- Laws of what stands in a list: in a list put behind another, in what is made item by item, and by tests.
use Rattle.std.proofs.Common.{◌≡◌, ◌∙◌, ap, sym, subst, refl, ℕ, zero, suc, ◌<◌, ◌≤◌, ◌⊎◌, inl, inr, Bool, true, false, List, [], ◌∷◌, ◌++◌, map, length, get_or, slice_get, Some, arith}
use Rattle.std.specs.List.{All, list_all, list_any}
use Rattle.std.proofs.lemmas.Bool.{and_parts, or_cases, or_left, or_right, false≢true, false_from_ne_true}
use Rattle.std.proofs.lemmas.Option.{same_Some}
use Rattle.dn_base.specs.Members.{Member}

-- what stands in the first list stands in both
pub member_left : {X : Type 0} (xs ys : List X) (x : X) → Member x xs → Member x (xs ++ ys)
member_left [] ys x m = absurd m
member_left (y ∷ xs) ys x (inl e) = inl e
member_left (y ∷ xs) ys x (inr m) = inr (member_left xs ys x m)

-- what stands in the second list stands in both
pub member_right : {X : Type 0} (xs ys : List X) (x : X) → Member x ys → Member x (xs ++ ys)
member_right [] ys x m = m
member_right (y ∷ xs) ys x m = inr (member_right xs ys x m)

-- what stands in both stands in one of them
pub member_cases : {X : Type 0} (xs ys : List X) (x : X) → Member x (xs ++ ys) → Member x xs ⊎ Member x ys
member_cases [] ys x m = inr m
member_cases (y ∷ xs) ys x (inl e) = inl (inl e)
member_cases (y ∷ xs) ys x (inr m) = elim (member_cases xs ys x m) [ inl n ↦ inl (inr n) | inr n ↦ inr n ]

-- what is made of an item stands in what is made of the list
pub member_map : {X Y : Type 0} (f : X → Y) (xs : List X) (x : X) → Member x xs → Member (f x) (map f xs)
member_map f [] x m = m
member_map f (y ∷ xs) x (inl e) = inl (ap f e)
member_map f (y ∷ xs) x (inr m) = inr (member_map f xs x m)

-- what stands in what is made of a list is made of one of its items
pub map_member : {X Y : Type 0} (f : X → Y) (xs : List X) (y : Y) → Member y (map f xs) → (x : X) × Member x xs × (f x ≡ y)
map_member f [] y m = absurd m
map_member f (x ∷ xs) y (inl e) = (x, inl refl, e)
map_member f (x ∷ xs) y (inr m) = let r = map_member f xs y m in (r.0, inr r.1, r.2)

-- a test that passes somewhere passes at an item
pub any_member : {X : Type 0} (p : X → Bool) (xs : List X) → list_any p xs ≡ true → (x : X) × Member x xs × (p x ≡ true)
any_member p [] e = absurd (false≢true e)
any_member p (x ∷ xs) e = elim (or_cases (p x) (list_any p xs) e) [
  | inl h ↦ (x, inl refl, h)
  | inr h ↦ (let r = any_member p xs h in (r.0, inr r.1, r.2))
]

-- a test that passes at an item passes somewhere
pub member_any : {X : Type 0} (p : X → Bool) (xs : List X) (x : X) → Member x xs → p x ≡ true → list_any p xs ≡ true
member_any p [] x m e = absurd m
member_any p (z ∷ xs) x (inl s) e = or_left (p z) (list_any p xs) (ap p s ∙ e)
member_any p (z ∷ xs) x (inr m) e = or_right (p z) (list_any p xs) (member_any p xs x m e)

-- a test that passes nowhere fails at each item
pub member_none : {X : Type 0} (p : X → Bool) (xs : List X) (x : X) → list_any p xs ≡ false → Member x xs → p x ≡ false
member_none p xs x e m = false_from_ne_true (p x) (λ t. false≢true (sym e ∙ member_any p xs x m t))

-- a test that passes at all items passes at each
pub member_all : {X : Type 0} (p : X → Bool) (xs : List X) (x : X) → list_all p xs ≡ true → Member x xs → p x ≡ true
member_all p [] x all m = absurd m
member_all p (y ∷ ys) x all (inl e) = ap p (sym e) ∙ (and_parts (p y) (list_all p ys) all).0
member_all p (y ∷ ys) x all (inr m) = member_all p ys x (and_parts (p y) (list_all p ys) all).1 m

-- what holds of all items holds of each
pub member_of_all : {X : Type 0} (P : X → Type 0) (xs : List X) (x : X) → All P xs → Member x xs → P x
member_of_all P [] x all m = absurd m
member_of_all P (y ∷ xs) x all (inl e) = subst P e (all 0 y (omega arith))
member_of_all P (y ∷ xs) x all (inr m) = member_of_all P xs x (λ k d l. all (suc k) d (omega arith)) m

-- the item at a place
pub member_at : {X : Type 0} (xs : List X) (i : ℕ) (x : X) → slice_get xs i ≡ Some x → Member x xs
member_at [] i x at = cc
member_at (y ∷ xs) zero x at = inl (same_Some y x at)
member_at (y ∷ xs) (suc i) x at = inr (member_at xs i x at)

-- the same, of the item whatever stands past the end
pub member_get_or : {X : Type 0} (xs : List X) (k : ℕ) (d : X) → k < length xs → Member (get_or xs k d) xs
member_get_or [] k d l = absurd (omega arith)
member_get_or (x ∷ xs) zero d l = inl refl
member_get_or (x ∷ xs) (suc k) d l = inr (member_get_or xs k d (omega arith))

-- a list of one item at most has one item
pub one_member : {X : Type 0} (xs : List X) (y z : X) → length xs ≤ 1 → Member y xs → Member z xs → y ≡ z
one_member [] y z l m n = absurd m
one_member (x ∷ []) y z l (inl m) (inl n) = sym m ∙ n
one_member (x ∷ []) y z l (inr m) n = absurd m
one_member (x ∷ []) y z l (inl m) (inr n) = absurd n
one_member (x ∷ (w ∷ xs)) y z l m n = absurd (omega arith)
