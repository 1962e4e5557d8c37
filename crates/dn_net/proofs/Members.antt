-- Members of lists that are made of others.
use Rattle.std.proofs.Common.{◌≡◌, ◌⊎◌, ◌↔◌, inl, inr, Bool, true, false, if◌then◌else◌, List, [], ◌∷◌, filter, Option, Some, refl, sym, ap, ◌∙◌, subst}
use Rattle.std.specs.List.{flat_map}
use Rattle.dn_net.specs.Chain.{Member}
use Rattle.dn_net.specs.Walks.{put_in, in_order}
use Rattle.dn_base.proofs.Members.{member_left, member_right, member_cases}

-- what two options have is one
pub some_same : {X : Type 0} (x y : X) → ◌≡◌ {A = Option X} (Some x) (Some y) → x ≡ y
some_same x y e = cc

pub member_filter : {X : Type 0} (p : X → Bool) (xs : List X) (x : X) → Member x (filter p xs) → Member x xs × (p x ≡ true)
member_filter p [] x m = absurd m
member_filter {X} p (z ∷ xs) x m = by (member_filter p xs x) (p z) refl m
  where
    by : (Member x (filter p xs) → Member x xs × (p x ≡ true)) → (b : Bool) → p z ≡ b → Member x (if b then z ∷ filter p xs else filter p xs) → Member x (z ∷ xs) × (p x ≡ true)
    by ih true e (inl s) = (inl s, subst (λ w. p w ≡ true) s e)
    by ih true e (inr n) = let r = ih n in (inr r.0, r.1)
    by ih false e n = let r = ih n in (inr r.0, r.1)

pub filter_member : {X : Type 0} (p : X → Bool) (xs : List X) (x : X) → Member x xs → p x ≡ true → Member x (filter p xs)
filter_member p [] x m h = absurd m
filter_member p (z ∷ xs) x m h = by (filter_member p xs x) (p z) refl m
  where
    by : (Member x xs → p x ≡ true → Member x (filter p xs)) → (b : Bool) → p z ≡ b → Member x (z ∷ xs) → Member x (if b then z ∷ filter p xs else filter p xs)
    by ih true e (inl s) = inl s
    by ih true e (inr n) = inr (ih n h)
    by ih false e (inl s) = let f : false ≡ true = sym e ∙ (ap p s ∙ h) in cc
    by ih false e (inr n) = ih n h

pub member_flat_map : {X Y : Type 0} (f : X → List Y) (xs : List X) (y : Y) → Member y (flat_map f xs) → (x : X) × Member x xs × Member y (f x)
member_flat_map f [] y m = absurd m
member_flat_map f (x ∷ xs) y m = elim (member_cases (f x) (flat_map f xs) y m) [
  | inl n ↦ (x, inl refl, n)
  | inr n ↦ (let r = member_flat_map f xs y n in (r.0, inr r.1, r.2))
]

pub flat_map_member : {X Y : Type 0} (f : X → List Y) (xs : List X) (x : X) (y : Y) → Member x xs → Member y (f x) → Member y (flat_map f xs)
flat_map_member f [] x y m n = absurd m
flat_map_member f (z ∷ xs) x y (inl e) n = member_left (f z) (flat_map f xs) y (subst (λ w. Member y (f w)) (sym e) n)
flat_map_member f (z ∷ xs) x y (inr m) n = member_right (f z) (flat_map f xs) y (flat_map_member f xs x y m n)

pub member_put : {X : Type 0} (before : X → X → Bool) (x : X) (ys : List X) (z : X) → Member z (put_in before x ys) → (x ≡ z) ⊎ Member z ys
member_put before x [] z m = m
member_put before x (y ∷ ys) z m = by (member_put before x ys z) (before y x) m
  where
    by : (Member z (put_in before x ys) → (x ≡ z) ⊎ Member z ys) → (b : Bool) → Member z (if b then y ∷ put_in before x ys else x ∷ (y ∷ ys)) → (x ≡ z) ⊎ Member z (y ∷ ys)
    by ih false m = m
    by ih true (inl e) = inr (inl e)
    by ih true (inr n) = elim (ih n) [ inl e ↦ inl e | inr k ↦ inr (inr k) ]

put_member : {X : Type 0} (before : X → X → Bool) (x : X) (ys : List X) (z : X) → (x ≡ z) ⊎ Member z ys → Member z (put_in before x ys)
put_member before x [] z m = m
put_member before x (y ∷ ys) z m = by (put_member before x ys z) (before y x) m
  where
    by : ((x ≡ z) ⊎ Member z ys → Member z (put_in before x ys)) → (b : Bool) → (x ≡ z) ⊎ Member z (y ∷ ys) → Member z (if b then y ∷ put_in before x ys else x ∷ (y ∷ ys))
    by ih false m = m
    by ih true (inl e) = inr (ih (inl e))
    by ih true (inr (inl e)) = inl e
    by ih true (inr (inr n)) = inr (ih (inr n))

-- a list in order has the same members
pub member_order : {X : Type 0} (before : X → X → Bool) (xs : List X) (z : X) → Member z (in_order before xs) ↔ Member z xs
member_order before [] z = ((λ m. m), (λ m. m))
member_order before (x ∷ xs) z =
    let ih = member_order before xs z in
    ((λ m. elim (member_put before x (in_order before xs) z m) [ inl e ↦ inl e | inr n ↦ inr (ih.0 n) ]), (λ m. put_member before x (in_order before xs) z (elim m [ inl e ↦ inl e | inr n ↦ inr (ih.1 n) ])))
