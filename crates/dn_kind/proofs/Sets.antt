-- Lists of names as sets: two ascending lists with the same names are one list.
use Rattle.std.proofs.Common.{◌≡◌, ◌∙◌, ap, sym, refl, ℕ, ◌+◌, ◌<◌, ◌⊎◌, ◌↔◌, inl, inr, true, false, List, [], ◌∷◌, ◌++◌, take, get_or, length}
use Rattle.std.proofs.lemmas.List.{take_more}
use Rattle.std.proofs.lemmas.List.Sorted.{list_any-IsPermutation}
use Rattle.std.specs.List.Sorted.{IsPermutation}
use Rattle.dn_base.proofs.Booleans.{and_parts}
use Rattle.dn_base.proofs.Members.{member_left, member_right, member_cases}
use Rattle.dn_net.specs.declared.node.Name.{Name}
use Rattle.dn_net.specs.Chain.{Member}
use Rattle.dn_net.specs.Names.{name_lt, name_eq, with_name, is_before_first, is_ascending, sorted_names}
use Rattle.dn_net.proofs.Ascending.{before_members, turned, sorted_ascending, with_ascending, not_itself}
use Rattle.dn_net.proofs.Resolution.{with_in, with_has, names_in, test_finds, found_by_test}

-- the lists have the same names
abbrev pub Same : List Name → List Name → Type 0
Same xs ys = (z : Name) → Member z xs ↔ Member z ys

pub same_refl : (xs : List Name) → Same xs xs
same_refl xs z = ((λ m. m), (λ m. m))

pub same_sym : (xs ys : List Name) → Same xs ys → Same ys xs
same_sym xs ys s z = ((s z).1, (s z).0)

not_turned : (x y : Name) → name_lt x y ≡ true → name_lt y x ≡ true → ⊥
not_turned x y l m = let g : false ≡ true = sym (turned x y l) ∙ m in cc

-- the firsts of two ascending lists with the same names are one name
same_first : (x y : Name) (xs ys : List Name) → is_ascending (x ∷ xs) ≡ true → is_ascending (y ∷ ys) ≡ true → (y ≡ x) ⊎ Member x ys → (x ≡ y) ⊎ Member y xs → x ≡ y
same_first x y xs ys up down (inl e) n = sym e
same_first x y xs ys up down (inr m) (inl e) = e
same_first x y xs ys up down (inr m) (inr n) = absurd (not_turned x y (before_members x y xs up n) (before_members y x ys down m))

-- what is in the rest of one is in the rest of the other
rest_in : (x y z : Name) (xs ys : List Name) → x ≡ y → is_ascending (x ∷ xs) ≡ true → Member z xs → (y ≡ z) ⊎ Member z ys → Member z ys
rest_in x y z xs ys e up m (inl f) = absurd (not_itself x z (e ∙ f) (before_members x z xs up m))
rest_in x y z xs ys e up m (inr n) = n

pub ascending_same : (xs ys : List Name) → is_ascending xs ≡ true → is_ascending ys ≡ true → Same xs ys → xs ≡ ys
ascending_same [] [] up down s = refl
ascending_same [] (y ∷ ys) up down s = absurd ((s y).1 (inl refl))
ascending_same (x ∷ xs) [] up down s = absurd ((s x).0 (inl refl))
ascending_same (x ∷ xs) (y ∷ ys) up down s =
    let e : x ≡ y = same_first x y xs ys up down ((s x).0 (inl refl)) ((s y).1 (inl refl)) in
    let rest : xs ≡ ys = ascending_same xs ys (and_parts (is_before_first x xs) (is_ascending xs) up).1 (and_parts (is_before_first y ys) (is_ascending ys) down).1 (λ z. ((λ m. rest_in x y z xs ys e up m ((s z).0 (inr m))), (λ m. rest_in y x z ys xs (sym e) down m ((s z).1 (inr m))))) in
    ap (λ w. w ∷ xs) e ∙ ap (λ l. y ∷ l) rest

pub sorted_same : (xs ys : List Name) → Same xs ys → sorted_names xs ≡ sorted_names ys
sorted_same xs ys s =
    ascending_same (sorted_names xs) (sorted_names ys) (sorted_ascending xs) (sorted_ascending ys) (λ z. ((λ m. (names_in ys z).1 ((s z).0 ((names_in xs z).0 m))), (λ m. (names_in xs z).1 ((s z).1 ((names_in ys z).0 m)))))

-- a name put behind the others
pub sorted_push : (xs : List Name) (x : Name) → sorted_names (xs ++ x ∷ []) ≡ with_name x (sorted_names xs)
sorted_push xs x =
    ascending_same (sorted_names (xs ++ x ∷ [])) (with_name x (sorted_names xs)) (sorted_ascending (xs ++ x ∷ [])) (with_ascending x (sorted_names xs) (sorted_ascending xs)) (λ z. (
      (λ m. elim (member_cases xs (x ∷ []) z ((names_in (xs ++ x ∷ []) z).0 m)) [ inl n ↦ with_has x (sorted_names xs) z (inr ((names_in xs z).1 n)) | inr n ↦ elim n [ inl e ↦ with_has x (sorted_names xs) z (inl e) | inr o ↦ absurd o ] ]),
      (λ m. (names_in (xs ++ x ∷ []) z).1 (elim (with_in x (sorted_names xs) z m) [ inl e ↦ member_right xs (x ∷ []) z (inl e) | inr n ↦ member_left xs (x ∷ []) z ((names_in xs z).0 n) ])),
    ))

pub sorted_more : (xs : List Name) (i : ℕ) (d : Name) → i < length xs → sorted_names (take (i + 1) xs) ≡ with_name (get_or xs i d) (sorted_names (take i xs))
sorted_more xs i d h = ap sorted_names (take_more xs i d h) ∙ sorted_push (take i xs) (get_or xs i d)

-- a sort changes no set
pub sorted_permuted : (xs ys : List Name) → IsPermutation xs ys → sorted_names ys ≡ sorted_names xs
sorted_permuted xs ys p =
    sorted_same ys xs (λ z. (
      (λ m. found_by_test z xs (list_any-IsPermutation (name_eq z) xs ys p ∙ test_finds z ys m)),
      (λ m. found_by_test z ys (sym (list_any-IsPermutation (name_eq z) xs ys p) ∙ test_finds z xs m)),
    ))
