-- Grants at places of their own, found by id: what each call on them keeps.
use Rattle.std.proofs.Common.{◌≡◌, ◌≢◌, ℕ, zero, suc, ◌-◌, ◌<◌, ◌≤◌, max, ◌⊎◌, inl, inr, Bool, true, false, cond, if◌then◌else◌, ◌||◌, ◌==◌, not, nat_eq, List, [], ◌∷◌, ◌++◌, find, length, slice_get, Option, Some, None, is_some, refl, sym, ap, ◌∙◌, subst, arith}
use Rattle.std.specs.List.{AllByRecursion, IsDistinct, cons_option, remove}
use Rattle.std.specs.Map.{keys_of, lookup}
use Rattle.std.proofs.Math.Nat.{max-eq_left, max-eq_right}
use Rattle.std.proofs.lemmas.Bool.{cases_eq, cases_lt, eqb-true, eq-eqb, ne_eqb}
use Rattle.std.proofs.lemmas.Map.Entries.{lookup-filter-keys}
use Rattle.std.proofs.lemmas.Map.Keys.{IsDistinct-cons, IsDistinct-from_apart, IsDistinct-head, IsDistinct-tail}
use Rattle.std.proofs.lemmas.Map.Made.{IsDistinct-keys_filter}
use Rattle.std.proofs.lemmas.Option.{same_Some}
use Rattle.slab.specs.Slab.{ContainsKey, Slab, Updates, get}
use Rattle.dn_book.specs.declared.grant.Grant.{Grant}
use Rattle.dn_book.specs.Book.{has_id, without_id}
use Rattle.dn_book.specs.Placed.{AreIdsHeld, AreFoundById, IsOfId, kept_grants, without_place}

-- what is left of the room once there was room for one
pub one_less : (n : ℕ) → max n 1 - 1 ≡ n - 1
one_less n = by (cases_lt 0 n)
  where
    by : (0 < n) ⊎ (n ≤ 0) → max n 1 - 1 ≡ n - 1
    by (inl l) = let e : max n 1 ≡ n = max-eq_left (omega (arith, l)) in omega (arith, e)
    by (inr l) = let e : max n 1 ≡ 1 = max-eq_right (omega (arith, l)) in omega (arith, e, l)

-- two numbers are compared either way
pub turned : (a b : ℕ) → (a == b) ≡ (b == a)
turned a b = by (cases_eq a b)
  where
    by : (a ≡ b) ⊎ (a ≢ b) → (a == b) ≡ (b == a)
    by (inl e) = eq-eqb a b e ∙ sym (eq-eqb b a (sym e))
    by (inr n) = ne_eqb a b n ∙ sym (ne_eqb b a (λ e. n (sym e)))

-- the id of a grant is compared as the id with which it is kept
own_test : (g own id : ℕ) → g ≡ own → (g == id) ≡ nat_eq id own
own_test g own id e = ap (λ n. n == id) e ∙ turned own id

-- EACH GRANT AT ITS PLACE

-- each place has one grant
pub length_at : (kept : Slab Grant) (es : List (ℕ × ℕ)) → AreIdsHeld kept es → length (kept_grants kept es) ≡ length es
length_at kept [] h = refl
length_at kept (e ∷ es) h = go (length_at kept es h.1) (get kept e.1) h.0
  where
    go : length (kept_grants kept es) ≡ length es → (o : Option Grant) → IsOfId e.0 o → length (cons_option o (kept_grants kept es)) ≡ suc (length es)
    go rest None i = absurd i
    go rest (Some g) i = ap suc rest

-- the grant at the place of an entry, where there is one
abbrev pub at_entry : Slab Grant → Option (ℕ × ℕ) → Option Grant
at_entry kept None = None
at_entry kept (Some e) = get kept e.1

-- the grant at a place, where there is one
abbrev pub at_place : Slab Grant → Option ℕ → Option Grant
at_place kept None = None
at_place kept (Some p) = get kept p

-- the grant after so many others is kept at the place of its entry
pub nth_at : (kept : Slab Grant) (es : List (ℕ × ℕ)) (i : ℕ) → AreIdsHeld kept es → at_entry kept (slice_get es i) ≡ slice_get (kept_grants kept es) i
nth_at kept [] i h = refl
nth_at kept (e ∷ es) zero h = go (get kept e.1) h.0
  where
    go : (o : Option Grant) → IsOfId e.0 o → o ≡ slice_get (cons_option o (kept_grants kept es)) zero
    go None i = absurd i
    go (Some g) i = refl
nth_at kept (e ∷ es) (suc i) h = go (nth_at kept es i h.1) (get kept e.1) h.0
  where
    go : at_entry kept (slice_get es i) ≡ slice_get (kept_grants kept es) i → (o : Option Grant) → IsOfId e.0 o → at_entry kept (slice_get es i) ≡ slice_get (cons_option o (kept_grants kept es)) (suc i)
    go rest None k = absurd k
    go rest (Some g) k = rest

-- the place of an id has the first grant of it
pub find_at : (kept : Slab Grant) (es : List (ℕ × ℕ)) (id : ℕ) → AreIdsHeld kept es → at_place kept (lookup (nat_eq id) es) ≡ find (λ (g : Grant). g.id == id) (kept_grants kept es)
find_at kept [] id h = refl
find_at kept (e ∷ es) id h = go (find_at kept es id h.1) (get kept e.1) refl h.0 (nat_eq id e.0) refl
  where
    go : at_place kept (lookup (nat_eq id) es) ≡ find (λ (g : Grant). g.id == id) (kept_grants kept es) → (o : Option Grant) → get kept e.1 ≡ o → IsOfId e.0 o → (b : Bool) → nat_eq id e.0 ≡ b → at_place kept (cond b (Some e.1) (lookup (nat_eq id) es)) ≡ find (λ (g : Grant). g.id == id) (cons_option o (kept_grants kept es))
    go rest None f i b k = absurd i
    go rest (Some g) f i true k = f ∙ ap (λ b. cond b (Some g) (find (λ (w : Grant). w.id == id) (kept_grants kept es))) (sym (own_test g.id e.0 id i ∙ k))
    go rest (Some g) f i false k = rest ∙ ap (λ b. cond b (Some g) (find (λ (w : Grant). w.id == id) (kept_grants kept es))) (sym (own_test g.id e.0 id i ∙ k))

-- an id has a place exactly where a grant has it
pub has_at : (kept : Slab Grant) (es : List (ℕ × ℕ)) (id : ℕ) → AreIdsHeld kept es → is_some (lookup (nat_eq id) es) ≡ has_id id (kept_grants kept es)
has_at kept [] id h = refl
has_at kept (e ∷ es) id h = go (has_at kept es id h.1) (get kept e.1) h.0 (nat_eq id e.0) refl
  where
    go : is_some (lookup (nat_eq id) es) ≡ has_id id (kept_grants kept es) → (o : Option Grant) → IsOfId e.0 o → (b : Bool) → nat_eq id e.0 ≡ b → is_some (cond b (Some e.1) (lookup (nat_eq id) es)) ≡ has_id id (cons_option o (kept_grants kept es))
    go rest None i b k = absurd i
    go rest (Some g) i true k = ap (λ b. b || has_id id (kept_grants kept es)) (sym (own_test g.id e.0 id i ∙ k))
    go rest (Some g) i false k = rest ∙ ap (λ b. b || has_id id (kept_grants kept es)) (sym (own_test g.id e.0 id i ∙ k))

-- the place of an id has a grant of it
held_of : (kept : Slab Grant) (es : List (ℕ × ℕ)) (id p : ℕ) → AreIdsHeld kept es → lookup (nat_eq id) es ≡ Some p → IsOfId id (get kept p)
held_of kept [] id p h e = let no : None ≡ Some p = e in cc
held_of kept (x ∷ es) id p h e = go (λ f. held_of kept es id p h.1 f) (nat_eq id x.0) refl e
  where
    go : (lookup (nat_eq id) es ≡ Some p → IsOfId id (get kept p)) → (b : Bool) → nat_eq id x.0 ≡ b → cond b (Some x.1) (lookup (nat_eq id) es) ≡ Some p → IsOfId id (get kept p)
    go rest true k f =
        let is : x.1 ≡ p = same_Some x.1 p f in
        subst (λ n. IsOfId n (get kept p)) (sym (eqb-true id x.0 k)) (subst (λ n. IsOfId x.0 (get kept n)) is h.0)
    go rest false k f = rest f

-- so there is a grant at it
pub is_kept : (kept : Slab Grant) (es is : List (ℕ × ℕ)) (id p : ℕ) → AreFoundById kept es is → lookup (nat_eq id) is ≡ Some p → ContainsKey kept p
is_kept kept es is id p a at = go (get kept p) (held_of kept es id p a.held (sym (a.found id) ∙ at))
  where
    go : (o : Option Grant) → IsOfId id o → is_some o ≡ true
    go None i = absurd i
    go (Some g) i = refl

-- ONE MORE GRANT

-- a place with a grant is none that was vacant
not_vacant : (kept : Slab Grant) (id q p : ℕ) → IsOfId id (get kept q) → get kept p ≡ None → q ≢ p
not_vacant kept id q p i v e = subst (λ o. IsOfId id o) (ap (get kept) e ∙ v) i

-- what was kept stays where it was
held_still : (old new : Slab Grant) (p : ℕ) (o : Option Grant) (es : List (ℕ × ℕ)) → Updates old new p o → get old p ≡ None → AreIdsHeld old es → AreIdsHeld new es
held_still old new p o [] u v h = tt
held_still old new p o (e ∷ es) u v h = (subst (λ w. IsOfId e.0 w) (sym (u.others e.1 (not_vacant old e.0 e.1 p h.0 v))) h.0, held_still old new p o es u v h.1)

grants_still : (old new : Slab Grant) (p : ℕ) (o : Option Grant) (es : List (ℕ × ℕ)) → Updates old new p o → get old p ≡ None → AreIdsHeld old es → kept_grants new es ≡ kept_grants old es
grants_still old new p o [] u v h = refl
grants_still old new p o (e ∷ es) u v h =
    ap (λ w. cons_option w (kept_grants new es)) (u.others e.1 (not_vacant old e.0 e.1 p h.0 v))
    ∙ ap (λ l. cons_option (get old e.1) l) (grants_still old new p o es u v h.1)

held_last : (kept : Slab Grant) (es : List (ℕ × ℕ)) (p : ℕ) (g : Grant) → get kept p ≡ Some g → AreIdsHeld kept es → AreIdsHeld kept (es ++ (g.id, p) ∷ [])
held_last kept [] p g e h = (subst (λ w. IsOfId g.id w) (sym e) refl, tt)
held_last kept (x ∷ es) p g e h = (h.0, held_last kept es p g e h.1)

grants_last : (kept : Slab Grant) (es : List (ℕ × ℕ)) (p : ℕ) (g : Grant) → get kept p ≡ Some g → AreIdsHeld kept es → kept_grants kept (es ++ (g.id, p) ∷ []) ≡ kept_grants kept es ++ g ∷ []
grants_last kept [] p g e h = ap (λ w. cons_option w []) e
grants_last kept (x ∷ es) p g e h = go (grants_last kept es p g e h.1) (get kept x.1) h.0
  where
    go : kept_grants kept (es ++ (g.id, p) ∷ []) ≡ kept_grants kept es ++ g ∷ [] → (o : Option Grant) → IsOfId x.0 o → cons_option o (kept_grants kept (es ++ (g.id, p) ∷ [])) ≡ cons_option o (kept_grants kept es) ++ g ∷ []
    go rest None i = absurd i
    go rest (Some w) i = ap (λ (l : List Grant). w ∷ l) rest

-- an id that comes last is found last
found_last : (es : List (ℕ × ℕ)) (id p q : ℕ) → lookup (nat_eq id) es ≡ None → lookup (nat_eq q) (es ++ (id, p) ∷ []) ≡ cond (nat_eq id q) (Some p) (lookup (nat_eq q) es)
found_last [] id p q n = ap (λ b. cond b (Some p) None) (turned q id)
found_last (x ∷ es) id p q n = go (λ e. found_last es id p q e) (nat_eq q x.0) refl (nat_eq id x.0) refl n
  where
    go : (lookup (nat_eq id) es ≡ None → lookup (nat_eq q) (es ++ (id, p) ∷ []) ≡ cond (nat_eq id q) (Some p) (lookup (nat_eq q) es)) → (b : Bool) → nat_eq q x.0 ≡ b → (c : Bool) → nat_eq id x.0 ≡ c → cond c (Some x.1) (lookup (nat_eq id) es) ≡ None → cond b (Some x.1) (lookup (nat_eq q) (es ++ (id, p) ∷ [])) ≡ cond (nat_eq id q) (Some p) (cond b (Some x.1) (lookup (nat_eq q) es))
    go rest b k true f e = let no : Some x.1 ≡ None = e in cc
    go rest true k false f e = ap (λ t. cond t (Some p) (Some x.1)) (sym (ap (λ n. nat_eq id n) (eqb-true q x.0 k) ∙ f))
    go rest false k false f e = rest e

-- ids stay apart where one that none has comes last
apart_last : (k id p : ℕ) (es : List (ℕ × ℕ)) → nat_eq k id ≡ false → AllByRecursion (λ y. nat_eq k y ≡ false) (keys_of es) → AllByRecursion (λ y. nat_eq k y ≡ false) (keys_of (es ++ (id, p) ∷ []))
apart_last k id p [] f a = (f, tt)
apart_last k id p (x ∷ es) f a = (a.0, apart_last k id p es f a.1)

distinct_last : (es : List (ℕ × ℕ)) (id p : ℕ) → IsDistinct nat_eq (keys_of es) → lookup (nat_eq id) es ≡ None → IsDistinct nat_eq (keys_of (es ++ (id, p) ∷ []))
distinct_last [] id p d n = IsDistinct-cons nat_eq id [] tt (IsDistinct-from_apart nat_eq [] (λ i j k l m. absurd (omega (arith, m))))
distinct_last (x ∷ es) id p d n = go (λ e. distinct_last es id p (IsDistinct-tail nat_eq x.0 (keys_of es) d) e) (nat_eq id x.0) refl n
  where
    go : (lookup (nat_eq id) es ≡ None → IsDistinct nat_eq (keys_of (es ++ (id, p) ∷ []))) → (b : Bool) → nat_eq id x.0 ≡ b → cond b (Some x.1) (lookup (nat_eq id) es) ≡ None → IsDistinct nat_eq (keys_of ((x ∷ es) ++ (id, p) ∷ []))
    go rest true k e = let no : Some x.1 ≡ None = e in cc
    go rest false k e = IsDistinct-cons nat_eq x.0 (keys_of (es ++ (id, p) ∷ [])) (apart_last x.0 id p es (turned x.0 id ∙ k) (IsDistinct-head nat_eq x.0 (keys_of es) d)) (rest e)

-- what is not there is none
missing : (o : Option ℕ) → is_some o ≡ false → o ≡ None
missing None e = refl
missing (Some x) e = cc

-- the grants are kept with one more
pub placed_last : (old new : Slab Grant) (es is is' : List (ℕ × ℕ)) (p : ℕ) (g : Grant) → AreFoundById old es is → has_id g.id (kept_grants old es) ≡ false → Updates old new p (Some g) → get old p ≡ None → ((q : ℕ) → lookup (nat_eq q) is' ≡ cond (nat_eq g.id q) (Some p) (lookup (nat_eq q) is)) → AreFoundById new (es ++ (g.id, p) ∷ []) is'
placed_last old new es is is' p g a none u v put = record {
  held = held_last new es p g u.changed (held_still old new p (Some g) es u v a.held);
  apart = distinct_last es g.id p a.apart fresh;
  found = λ q. put q ∙ ap (λ o. cond (nat_eq g.id q) (Some p) o) (a.found q) ∙ sym (found_last es g.id p q fresh);
}
  where
    fresh : lookup (nat_eq g.id) es ≡ None
    fresh = missing (lookup (nat_eq g.id) es) (has_at old es g.id a.held ∙ none)

pub grants_more : (old new : Slab Grant) (es : List (ℕ × ℕ)) (p : ℕ) (g : Grant) → AreIdsHeld old es → Updates old new p (Some g) → get old p ≡ None → kept_grants new (es ++ (g.id, p) ∷ []) ≡ kept_grants old es ++ g ∷ []
grants_more old new es p g h u v =
    grants_last new es p g u.changed (held_still old new p (Some g) es u v h)
    ∙ ap (λ (l : List Grant). l ++ g ∷ []) (grants_still old new p (Some g) es u v h)

-- ONE GRANT LESS

-- where no entry has the id, each stays
all_stay : (id : ℕ) (es : List (ℕ × ℕ)) → AllByRecursion (λ k. nat_eq id k ≡ false) (keys_of es) → without_place id es ≡ es
all_stay id [] a = refl
all_stay id (e ∷ es) a =
    ap (λ b. if not b then e ∷ without_place id es else without_place id es) (turned e.0 id ∙ a.0)
    ∙ ap (λ (l : List (ℕ × ℕ)). e ∷ l) (all_stay id es a.1)

-- where ids differ, an entry has another id than a later one
other_id : (id : ℕ) (k : ℕ) (es : List (ℕ × ℕ)) (at : ℕ) (e : ℕ × ℕ) → AllByRecursion (λ y. nat_eq k y ≡ false) (keys_of es) → slice_get es at ≡ Some e → e.0 ≡ id → (k == id) ≡ false
other_id id k [] at e a s t = let no : None ≡ Some e = s in cc
other_id id k (x ∷ es) zero e a s t = ap (λ n. k == n) (sym (ap (λ (p : ℕ × ℕ). p.0) (same_Some x e s) ∙ t)) ∙ a.0
other_id id k (x ∷ es) (suc at) e a s t = other_id id k es at e a.1 s t

-- where ids differ, the entry of an id is the only one that goes
pub one_out : (id : ℕ) (es : List (ℕ × ℕ)) (at : ℕ) (e : ℕ × ℕ) → IsDistinct nat_eq (keys_of es) → slice_get es at ≡ Some e → e.0 ≡ id → remove es at ≡ without_place id es
one_out id [] at e d s t = let no : None ≡ Some e = s in cc
one_out id (x ∷ es) zero e d s t =
    let is : x.0 ≡ id = ap (λ (p : ℕ × ℕ). p.0) (same_Some x e s) ∙ t in
    sym (ap (λ b. if not b then x ∷ without_place id es else without_place id es) (eq-eqb x.0 id is)
    ∙ all_stay id es (subst (λ n. AllByRecursion (λ y. nat_eq n y ≡ false) (keys_of es)) is (IsDistinct-head nat_eq x.0 (keys_of es) d)))
one_out id (x ∷ es) (suc at) e d s t =
    ap (λ (l : List (ℕ × ℕ)). x ∷ l) (one_out id es at e (IsDistinct-tail nat_eq x.0 (keys_of es) d) s t)
    ∙ sym (ap (λ b. if not b then x ∷ without_place id es else without_place id es) (other_id id x.0 es at e (IsDistinct-head nat_eq x.0 (keys_of es) d) s t))

-- another id has another place
other_place : (kept : Slab Grant) (id own q p : ℕ) → IsOfId own (get kept q) → IsOfId id (get kept p) → (own == id) ≡ false → q ≢ p
other_place kept id own q p i k f e = go (get kept p) (subst (λ n. IsOfId own (get kept n)) e i) k
  where
    go : (o : Option Grant) → IsOfId own o → IsOfId id o → ⊥
    go None x y = x
    go (Some g) x y = let t : (own == id) ≡ true = eq-eqb own id (sym x ∙ y) in let no : true ≡ false = sym t ∙ f in cc

grants_less : (old new : Slab Grant) (es : List (ℕ × ℕ)) (id p : ℕ) → AreIdsHeld old es → IsOfId id (get old p) → Updates old new p None → kept_grants new (without_place id es) ≡ without_id id (kept_grants old es)
grants_less old new [] id p h i u = refl
grants_less old new (e ∷ es) id p h i u = go (grants_less old new es id p h.1 i u) (get old e.1) refl h.0 (e.0 == id) refl
  where
    go : kept_grants new (without_place id es) ≡ without_id id (kept_grants old es) → (o : Option Grant) → get old e.1 ≡ o → IsOfId e.0 o → (b : Bool) → (e.0 == id) ≡ b → kept_grants new (if not b then e ∷ without_place id es else without_place id es) ≡ without_id id (cons_option o (kept_grants old es))
    go rest None f k b t = absurd k
    go rest (Some g) f k true t =
        rest
        ∙ sym (ap (λ b. if not b then g ∷ without_id id (kept_grants old es) else without_id id (kept_grants old es)) (ap (λ n. n == id) k ∙ t))
    go rest (Some g) f k false t =
        ap (λ w. cons_option w (kept_grants new (without_place id es))) (u.others e.1 (other_place old id e.0 e.1 p h.0 i t) ∙ f)
        ∙ ap (λ (l : List Grant). g ∷ l) rest
        ∙ sym (ap (λ b. if not b then g ∷ without_id id (kept_grants old es) else without_id id (kept_grants old es)) (ap (λ n. n == id) k ∙ t))

held_less : (old new : Slab Grant) (es : List (ℕ × ℕ)) (id p : ℕ) → AreIdsHeld old es → IsOfId id (get old p) → Updates old new p None → AreIdsHeld new (without_place id es)
held_less old new [] id p h i u = tt
held_less old new (e ∷ es) id p h i u = go (held_less old new es id p h.1 i u) (e.0 == id) refl
  where
    go : AreIdsHeld new (without_place id es) → (b : Bool) → (e.0 == id) ≡ b → AreIdsHeld new (if not b then e ∷ without_place id es else without_place id es)
    go rest true t = rest
    go rest false t = (subst (λ w. IsOfId e.0 w) (sym (u.others e.1 (other_place old id e.0 e.1 p h.0 i t))) h.0, rest)

found_less : (es : List (ℕ × ℕ)) (id q : ℕ) → lookup (nat_eq q) (without_place id es) ≡ cond (nat_eq id q) None (lookup (nat_eq q) es)
found_less es id q =
    lookup-filter-keys (nat_eq q) (λ k. not (k == id)) (not (q == id)) (λ k e. ap (λ n. not (n == id)) (sym (eqb-true q k e))) es
    ∙ go (q == id) (nat_eq id q) (turned q id)
  where
    go : (b c : Bool) → b ≡ c → cond (not b) (lookup (nat_eq q) es) None ≡ cond c None (lookup (nat_eq q) es)
    go true true e = refl
    go false false e = refl
    go true false e = cc
    go false true e = cc

-- the grants are kept with one less
pub placed_less : (old new : Slab Grant) (es is is' : List (ℕ × ℕ)) (id p : ℕ) → AreFoundById old es is → lookup (nat_eq id) is ≡ Some p → Updates old new p None → ((q : ℕ) → lookup (nat_eq q) is' ≡ cond (nat_eq id q) None (lookup (nat_eq q) is)) → AreFoundById new (without_place id es) is'
placed_less old new es is is' id p a at u taken = record {
  held = held_less old new es id p a.held (held_of old es id p a.held (sym (a.found id) ∙ at)) u;
  apart = IsDistinct-keys_filter nat_eq (λ e. not (e.0 == id)) es a.apart;
  found = λ q. taken q ∙ ap (λ o. cond (nat_eq id q) None o) (a.found q) ∙ sym (found_less es id q);
}

pub grants_left : (old new : Slab Grant) (es is : List (ℕ × ℕ)) (id p : ℕ) → AreFoundById old es is → lookup (nat_eq id) is ≡ Some p → Updates old new p None → kept_grants new (without_place id es) ≡ without_id id (kept_grants old es)
grants_left old new es is id p a at u = grants_less old new es id p a.held (held_of old es id p a.held (sym (a.found id) ∙ at)) u

without_none : (n : ℕ) (gs : List Grant) → has_id n gs ≡ false → without_id n gs ≡ gs
without_none n [] h = refl
without_none n (g ∷ gs) h = go (λ f. without_none n gs f) (g.id == n) refl
  where
    go : (has_id n gs ≡ false → without_id n gs ≡ gs) → (b : Bool) → (g.id == n) ≡ b → without_id n (g ∷ gs) ≡ g ∷ gs
    go rest true f = let no : true ≡ false = sym (ap (λ b. b || has_id n gs) f) ∙ h in cc
    go rest false f =
        ap (λ b. if not b then g ∷ without_id n gs else without_id n gs) f
        ∙ ap (λ (l : List Grant). g ∷ l) (rest (sym (ap (λ b. b || has_id n gs) f) ∙ h))

-- where no grant has the id, none goes
pub none_goes : (kept : Slab Grant) (es is : List (ℕ × ℕ)) (id : ℕ) → AreFoundById kept es is → lookup (nat_eq id) is ≡ None → kept_grants kept es ≡ without_id id (kept_grants kept es)
none_goes kept es is id a at = sym (without_none id (kept_grants kept es) (sym (has_at kept es id a.held) ∙ ap (λ (o : Option ℕ). is_some o) (sym (a.found id) ∙ at)))
