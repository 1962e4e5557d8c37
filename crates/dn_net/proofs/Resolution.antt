-- The lists of names have the names that the relations have.
use Rattle.std.proofs.Common.{◌≡◌, ℕ, zero, suc, ◌≤◌, ◌⊎◌, ◌↔◌, inl, inr, Bool, true, false, if◌then◌else◌, ◌==◌, List, [], ◌∷◌, ◌++◌, refl, sym, ap, ◌∙◌, subst, arith, IsTrue, eqb-true}
use Rattle.std.specs.List.{list_any}
use Rattle.dn_base.proofs.Booleans.{and_parts, and_from, or_cases, or_left, or_right}
use Rattle.dn_base.proofs.Members.{member_left, member_right, member_cases}
use Rattle.dn_base.proofs.Orders.{eq-eqb}
use Rattle.dn_net.specs.declared.node.Name.{Name}
use Rattle.dn_net.specs.Chain.{Member, IsChain, ReachesWithin, Ends}
use Rattle.dn_net.specs.Names.{name_lt, name_eq, with_name, sorted_names, passing_names, each_step, after_steps, reached_names, end_names}

-- names of one node and one address are one name
pub name_is : (m n a b : ℕ) → m ≡ n → a ≡ b → ◌≡◌ {A = Name} (record { node = m; addr = a }) (record { node = n; addr = b })
name_is m n a b e f = λ i. record { node = e i; addr = f i }

-- the test of names
pub name_same : (x y : Name) → name_eq x y ≡ true → x ≡ y
name_same x y e =
    let b = and_parts (x.node == y.node) (x.addr == y.addr) e in
    λ i. record { node = eqb-true x.node y.node b.0 i; addr = eqb-true x.addr y.addr b.1 i }

pub same_name : (x y : Name) → x ≡ y → name_eq x y ≡ true
same_name x y e = and_from _ _ (eq-eqb x.node y.node (ap (λ n. n.node) e)) (eq-eqb x.addr y.addr (ap (λ n. n.addr) e))

-- a list has a name where a test finds it
pub found_by_test : (y : Name) (xs : List Name) → list_any (name_eq y) xs ≡ true → Member y xs
found_by_test y [] h = cc
found_by_test y (x ∷ xs) h = elim (or_cases (name_eq y x) (list_any (name_eq y) xs) h) [
  | inl e ↦ inl (sym (name_same y x e))
  | inr e ↦ inr (found_by_test y xs e)
]

pub test_finds : (y : Name) (xs : List Name) → Member y xs → list_any (name_eq y) xs ≡ true
test_finds y [] m = absurd m
test_finds y (x ∷ xs) (inl e) = or_left (name_eq y x) (list_any (name_eq y) xs) (same_name y x (sym e))
test_finds y (x ∷ xs) (inr m) = or_right (name_eq y x) (list_any (name_eq y) xs) (test_finds y xs m)

pub with_in : (x : Name) (ys : List Name) (z : Name) → Member z (with_name x ys) → (x ≡ z) ⊎ Member z ys
with_in x [] z (inl e) = inl e
with_in x [] z (inr m) = absurd m
with_in x (y ∷ ys) z m = go (with_in x ys z) (name_lt x y) (name_eq x y) m
  where
    go : (Member z (with_name x ys) → (x ≡ z) ⊎ Member z ys) → (a b : Bool) → Member z (if a then x ∷ (y ∷ ys) else (if b then y ∷ ys else y ∷ with_name x ys)) → (x ≡ z) ⊎ Member z (y ∷ ys)
    go ih true b m = m
    go ih false true m = inr m
    go ih false false (inl e) = inr (inl e)
    go ih false false (inr m) = elim (ih m) [ inl e ↦ inl e | inr n ↦ inr (inr n) ]

pub with_has : (x : Name) (ys : List Name) (z : Name) → (x ≡ z) ⊎ Member z ys → Member z (with_name x ys)
with_has x [] z m = m
with_has x (y ∷ ys) z m = go (with_has x ys z) (name_lt x y) (name_eq x y) refl m
  where
    go : ((x ≡ z) ⊎ Member z ys → Member z (with_name x ys)) → (a b : Bool) → name_eq x y ≡ b → (x ≡ z) ⊎ Member z (y ∷ ys) → Member z (if a then x ∷ (y ∷ ys) else (if b then y ∷ ys else y ∷ with_name x ys))
    go ih true b e m = m
    go ih false true e (inl f) = inl (sym (name_same x y e) ∙ f)
    go ih false true e (inr m) = m
    go ih false false e (inl f) = inr (ih (inl f))
    go ih false false e (inr (inl f)) = inl f
    go ih false false e (inr (inr m)) = inr (ih (inr m))

pub names_in : (xs : List Name) (z : Name) → Member z (sorted_names xs) ↔ Member z xs
names_in [] z = ((λ m. m), (λ m. m))
names_in (x ∷ xs) z =
    let ih = names_in xs z in
    ((λ m. elim (with_in x (sorted_names xs) z m) [ inl e ↦ inl e | inr n ↦ inr (ih.0 n) ]), (λ m. with_has x (sorted_names xs) z (elim m [ inl e ↦ inl e | inr n ↦ inr (ih.1 n) ])))

pub passing_in : (p : Name → Bool) (xs : List Name) (z : Name) → Member z (passing_names p xs) ↔ (IsTrue (p z) × Member z xs)
passing_in p [] z = ((λ m. absurd m), (λ m. m.1))
passing_in p (x ∷ xs) z = go (passing_in p xs z) (p x) refl
  where
    go : Member z (passing_names p xs) ↔ (IsTrue (p z) × Member z xs) → (b : Bool) → p x ≡ b → Member z (if b then x ∷ passing_names p xs else passing_names p xs) ↔ (IsTrue (p z) × Member z (x ∷ xs))
    go ih true e = ((λ m. elim m [ inl s ↦ (subst (λ w. IsTrue (p w)) s e, inl s) | inr n ↦ (let r = ih.0 n in (r.0, inr r.1)) ]), (λ m. elim m.1 [ inl s ↦ inl s | inr n ↦ inr (ih.1 (m.0, n)) ]))
    go ih false e = ((λ m. let r = ih.0 m in (r.0, inr r.1)), (λ m. elim m.1 [ inl s ↦ (let f : p x ≡ true = subst (λ w. IsTrue (p w)) (sym s) m.0 in let g : false ≡ true = sym e ∙ f in cc) | inr n ↦ ih.1 (m.0, n) ]))

pub each_in : (f : Name → List Name) (xs : List Name) (z : Name) → Member z (each_step f xs) ↔ ((x : Name) × Member x xs × Member z (f x))
each_in f [] z = ((λ m. absurd m), (λ m. absurd m.1))
each_in f (x ∷ xs) z =
    let ih = each_in f xs z in
    ((λ m. elim (member_cases (f x) (each_step f xs) z m) [ inl n ↦ (x, inl refl, n) | inr n ↦ (let r = ih.0 n in (r.0, inr r.1, r.2)) ]), (λ m. elim m.1 [ inl s ↦ member_left (f x) (each_step f xs) z (subst (λ w. Member z (f w)) (sym s) m.2) | inr n ↦ member_right (f x) (each_step f xs) z (ih.1 (m.0, n, m.2)) ]))

reached_in : (f : Name → List Name) (n : ℕ) (xs : List Name) (z : Name) → Member z (reached_names f n xs) ↔ ((x : Name) × Member x xs × ReachesWithin (λ a b. Member b (f a)) n x z)
reached_in f zero xs z = ((λ m. (z, m, (0, (omega arith), refl))), (λ m. go m.0 m.1 m.2.0 m.2.1 m.2.2))
  where
    go : (x : Name) → Member x xs → (k : ℕ) → k ≤ 0 → IsChain (λ a b. Member b (f a)) k x z → Member z xs
    go x m zero l c = subst (λ w. Member w xs) c m
    go x m (suc k) l c = absurd (omega arith)
reached_in f (suc n) xs z = (down (reached_in f n (each_step f xs) z), up (reached_in f n (each_step f xs) z))
  where
    S : Name → Name → Type 0
    S a b = Member b (f a)

    down : Member z (reached_names f n (each_step f xs)) ↔ ((x : Name) × Member x (each_step f xs) × ReachesWithin S n x z) → Member z (xs ++ reached_names f n (each_step f xs)) → (x : Name) × Member x xs × ReachesWithin S (suc n) x z
    down ih m = elim (member_cases xs (reached_names f n (each_step f xs)) z m) [
      | inl k ↦ (z, k, (0, (omega arith), refl))
      | inr k ↦ (let r = ih.0 k in let p = (each_in f xs r.0).0 r.1 in let l : r.2.0 ≤ n = r.2.1 in (p.0, p.1, (suc r.2.0, (omega arith), (r.0, p.2, r.2.2))))
    ]

    up : Member z (reached_names f n (each_step f xs)) ↔ ((x : Name) × Member x (each_step f xs) × ReachesWithin S n x z) → ((x : Name) × Member x xs × ReachesWithin S (suc n) x z) → Member z (xs ++ reached_names f n (each_step f xs))
    up ih m = go m.0 m.1 m.2.0 m.2.1 m.2.2
      where
        go : (x : Name) → Member x xs → (k : ℕ) → k ≤ suc n → IsChain S k x z → Member z (xs ++ reached_names f n (each_step f xs))
        go x i zero l c = member_left xs (reached_names f n (each_step f xs)) z (subst (λ w. Member w xs) c i)
        go x i (suc k) l c = member_right xs (reached_names f n (each_step f xs)) z (ih.1 (c.0, (each_in f xs c.0).1 (x, i, c.1), (k, (omega arith), c.2)))

-- the names after exactly so many steps are the ends of the chains of that length
after_in : (f : Name → List Name) (n : ℕ) (xs : List Name) (z : Name) → Member z (after_steps f n xs) ↔ ((x : Name) × Member x xs × IsChain (λ a b. Member b (f a)) n x z)
after_in f zero xs z = ((λ m. (z, m, refl)), (λ m. subst (λ w. Member w xs) m.2 m.1))
after_in f (suc n) xs z =
    let ih = after_in f n (each_step f xs) z in
    ((λ m. let r = ih.0 m in let p = (each_in f xs r.0).0 r.1 in (p.0, p.1, (r.0, p.2, r.2))), (λ m. ih.1 (m.2.0, (each_in f xs m.2.0).1 (m.0, m.1, m.2.1), m.2.2)))

pub after_steps_is_chain : (f : Name → List Name) (n : ℕ) (x y : Name) → Member y (after_steps f n (x ∷ [])) ↔ IsChain (λ a b. Member b (f a)) n x y
after_steps_is_chain f n x y =
    let a = after_in f n (x ∷ []) y in (
      (λ m. let q = a.0 m in elim q.1 [ inl s ↦ subst (λ w. IsChain (λ a b. Member b (f a)) n w y) (sym s) q.2 | inr z ↦ absurd z ]),
      (λ c. a.1 (x, inl refl, c)),
    )

-- the list has the names that pass and end a chain
pub end_names_are_ends : (f : Name → List Name) (passes : Name → Bool) (n : ℕ) (x y : Name) → Member y (end_names f passes n x) ↔ Ends f passes n x y
end_names_are_ends f passes n x y =
    let a = names_in (passing_names passes (reached_names f n (x ∷ []))) y in
    let b = passing_in passes (reached_names f n (x ∷ [])) y in
    let c = reached_in f n (x ∷ []) y in (
      (λ m. let p = b.0 (a.0 m) in let q = c.0 p.1 in (p.0, elim q.1 [ inl s ↦ subst (λ w. ReachesWithin (λ a b. Member b (f a)) n w y) (sym s) q.2 | inr z ↦ absurd z ])),
      (λ m. a.1 (b.1 (m.0, c.1 (x, inl refl, m.1)))),
    )

-- the names that are reached in at most so many steps are the ends of the chains of at most that length
pub reached_is_within : (f : Name → List Name) (n : ℕ) (x y : Name) → Member y (reached_names f n (x ∷ [])) ↔ ReachesWithin (λ a b. Member b (f a)) n x y
reached_is_within f n x y =
    let a = reached_in f n (x ∷ []) y in (
      (λ m. let q = a.0 m in elim q.1 [ inl s ↦ subst (λ w. ReachesWithin (λ a b. Member b (f a)) n w y) (sym s) q.2 | inr z ↦ absurd z ]),
      (λ c. a.1 (x, inl refl, c)),
    )
