-- The least list of names along a chain, found name by name, and what `Loop` and `Deep` carry.
use Rattle.std.proofs.Common.{◌≡◌, ℕ, zero, suc, ◌-◌, ◌<◌, ◌≤◌, ◌⊎◌, ◌↔◌, inl, inr, Bool, true, false, if◌then◌else◌, List, [], ◌∷◌, filter, length, Option, Some, None, refl, sym, ◌∙◌, subst, arith, IsTrue}
use Rattle.dn_base.proofs.Orders.{cases_lt}
use Rattle.dn_net.specs.declared.node.Name.{Name}
use Rattle.dn_net.specs.declared.node.NodeDecl.{NodeDecl}
use Rattle.dn_net.specs.Chain.{Member, IsChain}
use Rattle.dn_net.specs.Decode.{top, steps, step_limit, Step}
use Rattle.dn_net.specs.Names.{name_lt, name_eq, with_name, sorted_names}
use Rattle.dn_net.specs.WalkRules.{first_of, names_behind, way_by, least_name, comes_to, comes_back, goes_on, cycle_from, path_from, path_names, NotAfter, Along, IsLeastCycle, CycleIsLeast, IsLeastPath, PathIsLeast}
use Rattle.dn_net.specs.Rules.{KeepsNodeRules}
use Rattle.dn_net.proofs.Ascending.{transitive}
use Rattle.dn_net.proofs.Cycles.{comes_to_is_chain, goes_on_is_chain, stepping_in_range}
use Rattle.dn_net.proofs.Firsts.{NoLater, lower_node, lower_addr, IsLeastName, least_name_is, IsShortest, shortest_cycle_is}
use Rattle.dn_net.proofs.Members.{member_filter, filter_member, some_same}
use Rattle.dn_net.proofs.Resolution.{name_same}

pub no_later_still : (x y z : Name) → NoLater x y → NoLater y z → NoLater x z
no_later_still x y z (inl p) (inl q) = inl (transitive x y z p q)
no_later_still x y z (inl p) (inr e) = inl (subst (λ w. IsTrue (name_lt x w)) e p)
no_later_still x y z (inr e) (inl q) = inl (subst (λ w. IsTrue (name_lt w z)) (sym e) q)
no_later_still x y z (inr e) (inr f) = inr (e ∙ f)

-- of two names one comes no later than the other
pub either_way : (x y : Name) → IsTrue (name_lt x y) ⊎ NoLater y x
either_way x y = by (order x.node y.node) (order x.addr y.addr)
  where
    order : (a b : ℕ) → (a ≡ b) ⊎ ((a < b) ⊎ (b < a))
    order a b = grind arith

    by : (x.node ≡ y.node) ⊎ ((x.node < y.node) ⊎ (y.node < x.node)) → (x.addr ≡ y.addr) ⊎ ((x.addr < y.addr) ⊎ (y.addr < x.addr)) → IsTrue (name_lt x y) ⊎ NoLater y x
    by (inl e) (inl f) = inr (inr (λ i. record { node = sym e i; addr = sym f i }))
    by (inl e) (inr (inl l)) = inl (lower_addr x y e l)
    by (inl e) (inr (inr l)) = inr (inl (lower_addr y x (sym e) l))
    by (inr (inl l)) f = inl (lower_node x y l)
    by (inr (inr l)) f = inr (inl (lower_node y x l))

-- the least name of a list, or that there is none
pub record IsFirstName (xs : List Name) (x : Name) : Type 0 where
  pub member : Member x xs
  pub least : (z : Name) → Member z xs → NoLater x z

abbrev pub IsFirstNameOr : List Name → Option Name → Type 0
IsFirstNameOr xs None = (z : Name) → Member z xs → ⊥
IsFirstNameOr xs (Some x) = IsFirstName xs x

pub first_sorted : (xs : List Name) → IsFirstNameOr xs (first_of (sorted_names xs))
first_sorted [] = λ z m. m
first_sorted (x ∷ xs) = by (sorted_names xs) (first_sorted xs)
  where
    by : (ys : List Name) → IsFirstNameOr xs (first_of ys) → IsFirstNameOr (x ∷ xs) (first_of (with_name x ys))
    by [] f = record { member = inl refl; least = (λ z m. elim m [ inl e ↦ inr e | inr n ↦ absurd (f z n) ]) }
    by (y ∷ ys) f = tests (name_lt x y) refl (name_eq x y) refl (either_way x y)
      where
        kept : NoLater y x → IsFirstName (x ∷ xs) y
        kept l = record { member = inr f.member; least = (λ z m. elim m [ inl e ↦ subst (λ w. NoLater y w) e l | inr n ↦ f.least z n ]) }

        tests : (a : Bool) → name_lt x y ≡ a → (b : Bool) → name_eq x y ≡ b → IsTrue (name_lt x y) ⊎ NoLater y x → IsFirstNameOr (x ∷ xs) (first_of (if a then x ∷ (y ∷ ys) else (if b then y ∷ ys else y ∷ with_name x ys)))
        tests true e b g o = record { member = inl refl; least = (λ z m. elim m [ inl s ↦ inr s | inr n ↦ no_later_still x y z (inl e) (f.least z n) ]) }
        tests false e true g o = kept (inr (sym (name_same x y g)))
        tests false e false g (inl h) = let k : false ≡ true = sym e ∙ h in cc
        tests false e false g (inr l) = kept l

-- names along steps make a chain
pub along_chain : (net : List NodeDecl) (k : ℕ) (x : Name) (ys : List Name) (y : Name) → Along net k (x ∷ ys) y → IsChain (Step net) k x y
along_chain net zero x [] y a = a
along_chain net zero x (z ∷ zs) y a = absurd a
along_chain net (suc k) x [] y a = absurd a.0
along_chain net (suc k) x (z ∷ zs) y a = (z, a.0, along_chain net k z zs y a.1)

-- the names behind a name are along steps to a name of Q, and no such list comes before them
pub record IsLeastWay (net : List NodeDecl) (Q : Name → Type 0) (k : ℕ) (x : Name) (zs : List Name) : Type 0 where
  pub end : Name
  pub is_end : Q end
  pub along : Along net k (x ∷ zs) end
  pub least : (ys : List Name) (y : Name) → Q y → Along net k (x ∷ ys) y → NotAfter zs ys

module _ (net : List NodeDecl) (Q : Name → Type 0) (leads : ℕ → Name → Bool) (sound : (k : ℕ) (x : Name) → (leads k x ≡ true) ↔ ((y : Name) × Q y × IsChain (Step net) k x y)) where
  pub way_is_least : (k : ℕ) (x : Name) → leads k x ≡ true → IsLeastWay net Q k x (way_by (steps net) leads k x)
  way_is_least zero x h = let r = (sound zero x).0 h in record { end = r.0; is_end = r.1; along = r.2; least = (λ ys y q a. tt) }
  way_is_least (suc k) x h = by (first_of (sorted_names (filter (leads k) (steps net x)))) (first_sorted (filter (leads k) (steps net x))) (way_is_least k)
    where
      r : (y : Name) × Q y × IsChain (Step net) (suc k) x y
      r = (sound (suc k) x).0 h

      among : (z y : Name) → Q y → Step net x z → IsChain (Step net) k z y → Member z (filter (leads k) (steps net x))
      among z y q s c = filter_member (leads k) (steps net x) z s ((sound k z).1 (y, q, c))

      by : (o : Option Name) → IsFirstNameOr (filter (leads k) (steps net x)) o → ((z : Name) → leads k z ≡ true → IsLeastWay net Q k z (way_by (steps net) leads k z)) → IsLeastWay net Q (suc k) x (names_behind o (λ z. way_by (steps net) leads k z))
      by None f ih = absurd (f r.2.0 (among r.2.0 r.0 r.1 r.2.1 r.2.2))
      by (Some z) f ih = record { end = w.end; is_end = w.is_end; along = (m.0, w.along); least = least }
        where
          m : Step net x z × (leads k z ≡ true)
          m = member_filter (leads k) (steps net x) z f.member

          w : IsLeastWay net Q k z (way_by (steps net) leads k z)
          w = ih z m.1

          least : (ys : List Name) (y : Name) → Q y → Along net (suc k) (x ∷ ys) y → NotAfter (z ∷ way_by (steps net) leads k z) ys
          least [] y q a = absurd a.0
          least (v ∷ vs) y q a = elim (f.least v (among v y q a.0 (along_chain net k v vs y a.1))) [
            | inl l ↦ inl l
            | inr e ↦ inr (e, w.least vs y q (subst (λ u. Along net k (u ∷ vs) y) (sym e) a.1))
          ]

-- to a name
comes_to_sound : (net : List NodeDecl) (x : Name) (k : ℕ) (z : Name) → (comes_to net x k z ≡ true) ↔ ((y : Name) × (x ≡ y) × IsChain (Step net) k z y)
comes_to_sound net x k z =
    let a = comes_to_is_chain net k z x in
    ((λ h. (x, refl, a.0 h)), (λ r. a.1 (subst (λ y. IsChain (Step net) k z y) (sym r.1) r.2)))

-- to any name
goes_on_sound : (net : List NodeDecl) (k : ℕ) (z : Name) → (goes_on net k z ≡ true) ↔ ((y : Name) × Unit {0} × IsChain (Step net) k z y)
goes_on_sound net k z =
    let a = goes_on_is_chain net k z in
    ((λ h. let r = a.0 h in (r.0, tt, r.1)), (λ r. a.1 (r.0, r.2)))

pub cycle_is_least : CycleIsLeast
cycle_is_least net checked c e = by (least_name net (comes_back net c)) refl
  where
    short : IsShortest net (step_limit - 1) c
    short = shortest_cycle_is net checked (Some c) e

    by : (o : Option Name) → least_name net (comes_back net c) ≡ o → IsLeastCycle net c (cycle_from net c o)
    by None f =
        let i = stepping_in_range net checked c short.cycle.0 short.cycle.0 short.least short.cycle.1 in
        absurd (least_name_is net (comes_back net c) None f short.cycle.0 i.0 i.1 ((comes_to_is_chain net c short.cycle.0 short.cycle.0).1 short.cycle.1))
    by (Some x) f = record { along = (x, refl, subst (λ y. Along net c (x ∷ way_by (steps net) (comes_to net x) c x) y) (sym w.is_end) w.along); least = least }
      where
        name : IsLeastName (comes_back net c) (length net) x
        name = least_name_is net (comes_back net c) (Some x) f

        w : IsLeastWay net (λ y. x ≡ y) c x (way_by (steps net) (comes_to net x) c x)
        w = way_is_least net (λ y. x ≡ y) (comes_to net x) (comes_to_sound net x) c x name.passes

        least : (ys : List Name) (y : Name) → first_of ys ≡ Some y → Along net c ys y → NotAfter (x ∷ way_by (steps net) (comes_to net x) c x) ys
        least [] y g a = cc
        least (v ∷ vs) y g a =
            let s : v ≡ y = some_same v y g in
            let k : IsChain (Step net) c v v = subst (λ u. IsChain (Step net) c v u) (sym s) (along_chain net c v vs y a) in
            let i = stepping_in_range net checked c v v short.least k in
            elim (name.least v i.0 i.1 ((comes_to_is_chain net c v v).1 k)) [
              | inl l ↦ inl l
              | inr d ↦ inr (d, w.least vs y (d ∙ s) (subst (λ u. Along net c (u ∷ vs) y) (sym d) a))
            ]

-- a name whose node is not there is later than one whose node is, and the first address of a node is its least name
front : (n : ℕ) (z : Name) → z.node ≡ n → NoLater (record { node = n; addr = 0 }) z
front n z e = by z.addr refl
  where
    by : (a : ℕ) → z.addr ≡ a → NoLater (record { node = n; addr = 0 }) z
    by zero f = inr (λ i. record { node = sym e i; addr = sym f i })
    by (suc a) f = inl (lower_addr (record { node = n; addr = 0 }) z (sym e) (omega arith))

least_of_all : (net : List NodeDecl) → KeepsNodeRules net → (k : ℕ) (x z y : Name) → IsLeastName (goes_on net k) (length net) x → IsChain (Step net) k z y → NoLater x z
least_of_all net checked zero x z y name c = by (cases_lt z.node (length net))
  where
    by : (z.node < length net) ⊎ (length net ≤ z.node) → NoLater x z
    by (inl l) =
        let u : Name = record { node = z.node; addr = 0 } in
        let t : 0 ≤ top = omega arith in
        no_later_still x u z (name.least u l t ((goes_on_is_chain net zero u).1 (u, refl))) (front z.node z refl)
    by (inr l) = let m : x.node < length net = name.node in inl (lower_node x z (omega arith))
least_of_all net checked (suc k) x z y name c =
    let i = stepping_in_range net checked (suc k) z y (omega arith) c in
    name.least z i.0 i.1 ((goes_on_is_chain net (suc k) z).1 (y, c))

pub path_is_least : PathIsLeast
path_is_least net checked k = (some, none)
  where
    found : (o : Option Name) → least_name net (goes_on net k) ≡ o → (xs : List Name) → path_from net k o ≡ Some xs → IsLeastPath net k xs
    found None e xs g = cc
    found (Some x) e xs g = subst (λ l. IsLeastPath net k l) (some_same (x ∷ way_by (steps net) (goes_on net) k x) xs g) made
      where
        name : IsLeastName (goes_on net k) (length net) x
        name = least_name_is net (goes_on net k) (Some x) e

        w : IsLeastWay net (λ y. Unit {0}) k x (way_by (steps net) (goes_on net) k x)
        w = way_is_least net (λ y. Unit {0}) (goes_on net) (goes_on_sound net) k x name.passes

        least : (ys : List Name) (y : Name) → Along net k ys y → NotAfter (x ∷ way_by (steps net) (goes_on net) k x) ys
        least [] y a = absurd a
        least (v ∷ vs) y a = elim (least_of_all net checked k x v y name (along_chain net k v vs y a)) [
          | inl l ↦ inl l
          | inr d ↦ inr (d, w.least vs y tt (subst (λ u. Along net k (u ∷ vs) y) (sym d) a))
        ]

        made : IsLeastPath net k (x ∷ way_by (steps net) (goes_on net) k x)
        made = record { along = (w.end, w.along); least = least }

    some : (xs : List Name) → path_names net k ≡ Some xs → IsLeastPath net k xs
    some xs g = found (least_name net (goes_on net k)) refl xs g

    missing : (o : Option Name) → least_name net (goes_on net k) ≡ o → path_from net k o ≡ None → (x y : Name) → IsChain (Step net) k x y → 1 ≤ k → ⊥
    missing (Some z) e g x y c l = cc
    missing None e g x y c l =
        let i = stepping_in_range net checked k x y l c in
        least_name_is net (goes_on net k) None e x i.0 i.1 ((goes_on_is_chain net k x).1 (y, c))

    none : path_names net k ≡ None → (x y : Name) → IsChain (Step net) k x y → 1 ≤ k → ⊥
    none g x y c l = missing (least_name net (goes_on net k)) refl g x y c l
