-- Ascending lists of names.
use Rattle.std.proofs.Common.{◌≡◌, ℕ, zero, suc, ◌<◌, ◌≤◌, ◌⊎◌, inl, inr, Bool, true, false, if◌then◌else◌, ◌&&◌, nat_lt, ◌==◌, List, [], ◌∷◌, length, get_or, slice_get, Some, refl, sym, ap, ◌∙◌, subst, arith, ltb-true, eqb-true}
use Rattle.std.proofs.lemmas.Bool.{cases_order, lt-ltb, eq-eqb}
use Rattle.std.specs.List.{insert}
use Rattle.std.specs.List.Sorted.{IsPartitionedBy}
use Rattle.dn_base.proofs.Booleans.{or_cases, and_parts, or_left, or_right, and_from}
use Rattle.dn_net.specs.declared.node.Name.{Name}
use Rattle.dn_net.specs.Chain.{Member}
use Rattle.dn_net.specs.Names.{name_lt, name_eq, with_name, is_before_first, is_ascending, sorted_names, passing_names, reached_names, end_names}

pub lower_is : (x y : Name) → name_lt x y ≡ true → (x.node < y.node) ⊎ ((x.node ≡ y.node) × (x.addr < y.addr))
lower_is x y h = elim (or_cases (nat_lt x.node y.node) ((x.node == y.node) && nat_lt x.addr y.addr) h) [
  | inl e ↦ inl (ltb-true _ _ e)
  | inr e ↦ (let b = and_parts (x.node == y.node) (nat_lt x.addr y.addr) e in inr (eqb-true _ _ b.0, ltb-true _ _ b.1))
]

before : (x y : Name) → (x.node < y.node) ⊎ ((x.node ≡ y.node) × (x.addr < y.addr)) → name_lt x y ≡ true
before x y (inl l) = or_left _ _ (lt-ltb _ _ l)
before x y (inr e) = or_right _ _ (and_from _ _ (eq-eqb _ _ e.0) (lt-ltb _ _ e.1))

not_before : (x y : Name) → ((x.node < y.node) ⊎ ((x.node ≡ y.node) × (x.addr < y.addr)) → ⊥) → name_lt x y ≡ false
not_before x y never = by (name_lt x y) refl
  where
    by : (b : Bool) → name_lt x y ≡ b → b ≡ false
    by true e = absurd (never (lower_is x y e))
    by false e = refl

pub transitive : (x y z : Name) → name_lt x y ≡ true → name_lt y z ≡ true → name_lt x z ≡ true
transitive x y z p q = before x z (by (lower_is x y p) (lower_is y z q))
  where
    by : (x.node < y.node) ⊎ ((x.node ≡ y.node) × (x.addr < y.addr)) → (y.node < z.node) ⊎ ((y.node ≡ z.node) × (y.addr < z.addr)) → (x.node < z.node) ⊎ ((x.node ≡ z.node) × (x.addr < z.addr))
    by (inl a) (inl b) = inl (omega arith)
    by (inl a) (inr b) = let e = b.0 in inl (omega arith)
    by (inr a) (inl b) = let e = a.0 in inl (omega arith)
    by (inr a) (inr b) = let e = a.0 in let f = b.0 in let g = a.1 in let h = b.1 in inr (omega arith, omega arith)

pub turned : (x y : Name) → name_lt x y ≡ true → name_lt y x ≡ false
turned x y p = not_before y x (λ q. by (lower_is x y p) q)
  where
    by : (x.node < y.node) ⊎ ((x.node ≡ y.node) × (x.addr < y.addr)) → (y.node < x.node) ⊎ ((y.node ≡ x.node) × (y.addr < x.addr)) → ⊥
    by (inl a) (inl b) = omega arith
    by (inl a) (inr b) = let e = b.0 in omega arith
    by (inr a) (inl b) = let e = a.0 in omega arith
    by (inr a) (inr b) = let g = a.1 in let h = b.1 in omega arith

unequal : (y x : Name) → name_lt y x ≡ true → name_eq x y ≡ false
unequal y x p = by (name_eq x y) refl
  where
    go : (y.node < x.node) ⊎ ((y.node ≡ x.node) × (y.addr < x.addr)) → x.node ≡ y.node → x.addr ≡ y.addr → ⊥
    go (inl a) e f = omega arith
    go (inr a) e f = let g = a.1 in omega arith

    by : (b : Bool) → name_eq x y ≡ b → b ≡ false
    by true e = let h = and_parts (x.node == y.node) (x.addr == y.addr) e in absurd (go (lower_is y x p) (eqb-true _ _ h.0) (eqb-true _ _ h.1))
    by false e = refl

pub itself : (x : Name) → name_lt x x ≡ false
itself x = not_before x x by
  where
    by : (x.node < x.node) ⊎ ((x.node ≡ x.node) × (x.addr < x.addr)) → ⊥
    by (inl a) = omega arith
    by (inr a) = let g = a.1 in omega arith

-- and a name that is one with another is not below it
pub not_itself : (x z : Name) → x ≡ z → name_lt x z ≡ true → ⊥
not_itself x z e l = let f : name_lt x x ≡ true = subst (λ w. name_lt x w ≡ true) (sym e) l in let g : false ≡ true = sym (itself x) ∙ f in cc

pub equal : (x : Name) → name_eq x x ≡ true
equal x = and_from _ _ (eq-eqb x.node x.node refl) (eq-eqb x.addr x.addr refl)

-- of two names that differ, one comes before the other
total : (x y : Name) → name_lt y x ≡ false → (y ≡ x → ⊥) → name_lt x y ≡ true
total x y p ne = by (cases_order x.node y.node) (cases_order x.addr y.addr)
  where
    contrary : (y.node < x.node) ⊎ ((y.node ≡ x.node) × (y.addr < x.addr)) → ⊥
    contrary q = let e = before y x q in let f : true ≡ false = sym e ∙ p in cc

    by : (x.node ≡ y.node) ⊎ ((x.node < y.node) ⊎ (y.node < x.node)) → (x.addr ≡ y.addr) ⊎ ((x.addr < y.addr) ⊎ (y.addr < x.addr)) → name_lt x y ≡ true
    by (inl e) (inl f) = absurd (ne (λ i. record { node = sym e i; addr = sym f i }))
    by (inl e) (inr (inl l)) = before x y (inr (e, l))
    by (inl e) (inr (inr l)) = absurd (contrary (inr (sym e, l)))
    by (inr (inl l)) f = before x y (inl l)
    by (inr (inr l)) f = absurd (contrary (inl l))

-- the first name of an ascending list comes before each other
first_before : (y : Name) (ys : List Name) (k : ℕ) (d : Name) → is_ascending (y ∷ ys) ≡ true → k < length ys → name_lt y (get_or ys k d) ≡ true
first_before y [] k d up h = absurd (omega arith)
first_before y (z ∷ ys) zero d up h = (and_parts (name_lt y z) (is_ascending (z ∷ ys)) up).0
first_before y (z ∷ ys) (suc k) d up h =
    let b = and_parts (name_lt y z) (is_ascending (z ∷ ys)) up in
    transitive y z (get_or ys k d) b.0 (first_before z ys k d b.1 (omega arith))

-- in an ascending list the names before another come first
pub partitioned : (x : Name) (ys : List Name) → is_ascending ys ≡ true → IsPartitionedBy (λ y. name_lt y x) ys
partitioned x [] up i j d l h e = absurd (omega arith)
partitioned x (y ∷ ys) up zero zero d l h e = e
partitioned x (y ∷ ys) up zero (suc j) d l h e = transitive y (get_or ys j d) x (first_before y ys j d up (omega arith)) e
partitioned x (y ∷ ys) up (suc i) zero d l h e = absurd (omega arith)
partitioned x (y ∷ ys) up (suc i) (suc j) d l h e = partitioned x ys (and_parts (is_before_first y ys) (is_ascending ys) up).1 i j d (omega arith) (omega arith) e

-- a name that is there changes nothing
pub with_there : (x : Name) (ys : List Name) (i : ℕ) → ((k : ℕ) (d : Name) → k < i → name_lt (get_or ys k d) x ≡ true) → slice_get ys i ≡ Some x → with_name x ys ≡ ys
with_there x [] i before at = cc
with_there x (y ∷ ys) zero before at = let s : y ≡ x = cc in subst (λ z. with_name x (z ∷ ys) ≡ z ∷ ys) (sym s) (rw (itself x, equal x) refl)
with_there x (y ∷ ys) (suc i) before at =
    let first = before 0 x (omega arith) in
    let rest = with_there x ys i (λ k d h. before (suc k) d (omega arith)) at in
    let turn : name_lt x y ≡ false = turned y x first in
    let differ : name_eq x y ≡ false = unequal y x first in
    rw (turn, differ, rest) refl

-- a name that is not there goes before those that do not come before it
pub with_inserted : (x : Name) (ys : List Name) (i : ℕ) → i ≤ length ys → ((k : ℕ) (d : Name) → k < i → name_lt (get_or ys k d) x ≡ true) → ((k : ℕ) (d : Name) → i ≤ k → k < length ys → name_lt (get_or ys k d) x ≡ false) → (slice_get ys i ≡ Some x → ⊥) → with_name x ys ≡ insert ys i x
with_inserted x [] i h before after at = let e : i ≡ 0 = omega arith in rw e refl
with_inserted x (y ∷ ys) zero h before after at =
    let first = total x y (after 0 x (omega arith) (omega arith)) (λ e. at (ap (λ z. Some z) e)) in
    rw first refl
with_inserted x (y ∷ ys) (suc i) h before after at =
    let first = before 0 x (omega arith) in
    let rest = with_inserted x ys i (omega arith) (λ k d l. before (suc k) d (omega arith)) (λ k d l m. after (suc k) d (omega arith) (omega arith)) at in
    let turn : name_lt x y ≡ false = turned y x first in
    let differ : name_eq x y ≡ false = unequal y x first in
    rw (turn, differ, rest) refl

-- an ascending list with a name stays ascending
before_with : (z x : Name) (ys : List Name) → name_lt z x ≡ true → is_before_first z ys ≡ true → is_before_first z (with_name x ys) ≡ true
before_with z x [] p q = p
before_with z x (y ∷ ys) p q = by (name_lt x y) (name_eq x y)
  where
    by : (a b : Bool) → is_before_first z (if a then x ∷ (y ∷ ys) else (if b then y ∷ ys else y ∷ with_name x ys)) ≡ true
    by true b = p
    by false true = q
    by false false = q

pub with_ascending : (x : Name) (ys : List Name) → is_ascending ys ≡ true → is_ascending (with_name x ys) ≡ true
with_ascending x [] up = refl
with_ascending x (y ∷ ys) up = by (name_lt x y) (name_eq x y) refl refl (with_ascending x ys parts.1)
  where
    parts : (is_before_first y ys ≡ true) × (is_ascending ys ≡ true)
    parts = and_parts (is_before_first y ys) (is_ascending ys) up

    by : (a b : Bool) → name_lt x y ≡ a → name_eq x y ≡ b → is_ascending (with_name x ys) ≡ true → is_ascending (if a then x ∷ (y ∷ ys) else (if b then y ∷ ys else y ∷ with_name x ys)) ≡ true
    by true b e f ih = and_from _ _ e up
    by false true e f ih = up
    by false false e f ih = and_from _ _ (before_with y x ys (total y x e (λ s. let g : true ≡ false = sym (equal y) ∙ subst (λ z. name_eq z y ≡ false) s f in cc)) parts.0) ih

pub sorted_ascending : (xs : List Name) → is_ascending (sorted_names xs) ≡ true
sorted_ascending [] = refl
sorted_ascending (x ∷ xs) = with_ascending x (sorted_names xs) (sorted_ascending xs)

-- the first of an ascending list comes before the others
pub before_members : (x z : Name) (xs : List Name) → is_ascending (x ∷ xs) ≡ true → Member z xs → name_lt x z ≡ true
before_members x z [] up m = absurd m
before_members x z (y ∷ ys) up m = go (before_members y z ys parts.1) m
  where
    parts : (name_lt x y ≡ true) × (is_ascending (y ∷ ys) ≡ true)
    parts = and_parts (name_lt x y) (is_ascending (y ∷ ys)) up

    go : (Member z ys → name_lt y z ≡ true) → Member z (y ∷ ys) → name_lt x z ≡ true
    go later (inl e) = subst (λ w. name_lt x w ≡ true) e parts.0
    go later (inr n) = transitive x y z parts.0 (later n)

-- and so does the list of those that pass and end a chain
pub end_names_ascend : (f : Name → List Name) (passes : Name → Bool) (n : ℕ) (x : Name) → is_ascending (end_names f passes n x) ≡ true
end_names_ascend f passes n x = sorted_ascending (passing_names passes (reached_names f n (x ∷ [])))
