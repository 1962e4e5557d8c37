-- The least of names, as they come.
use Rattle.std.proofs.Common.{◌≡◌, ℕ, ◌+◌, ◌<◌, ◌⊎◌, inl, inr, Bool, true, false, if◌then◌else◌, not, ◌||◌, List, [], ◌∷◌, ◌++◌, map, length, get_or, take, Option, Some, None, refl, sym, ap, ◌∙◌, subst, arith, IsTrue}
use Rattle.std.specs.List.{filter}
use Rattle.std.proofs.lemmas.List.{take_more, map-append, append-nil}
use Rattle.std.proofs.lemmas.List.Elements.{filter-append}
use Rattle.dn_net.specs.declared.node.Dest.{Dest}
use Rattle.dn_net.specs.declared.node.Name.{Name}
use Rattle.dn_net.specs.Chain.{Member}
use Rattle.dn_net.specs.Decode.{dest_name}
use Rattle.dn_net.specs.Names.{name_lt}
use Rattle.dn_base.proofs.Members.{member_left, member_right, member_cases}
use Rattle.dn_walk.specs.declared.walks.WalkRow.{WalkRow}
use Rattle.dn_walk.specs.Rows.{BareWalk, row_view}
use Rattle.dn_walk.specs.Ways.{least_of, lesser_name, start_name, start_names, is_cyclic}
use Rattle.dn_net.proofs.Firsts.{NoLater}
use Rattle.dn_net.proofs.Ascending.{lower_is}
use Rattle.dn_net.proofs.Ways.{IsFirstName, IsFirstNameOr, first_sorted, no_later_still, either_way}

-- a name is not before itself, nor before one that is before it
never_both : (x y : Name) → IsTrue (name_lt x y) → NoLater y x → ⊥
never_both x y p q = by (lower_is x y p) (after q)
  where
    after : NoLater y x → ((y.node < x.node) ⊎ ((y.node ≡ x.node) × (y.addr < x.addr))) ⊎ ((y.node ≡ x.node) × (y.addr ≡ x.addr))
    after (inl l) = inl (lower_is y x l)
    after (inr e) = inr (ap (λ n. n.node) e, ap (λ n. n.addr) e)

    by : (x.node < y.node) ⊎ ((x.node ≡ y.node) × (x.addr < y.addr)) → ((y.node < x.node) ⊎ ((y.node ≡ x.node) × (y.addr < x.addr))) ⊎ ((y.node ≡ x.node) × (y.addr ≡ x.addr)) → ⊥
    by (inl l) (inl (inl m)) = omega arith
    by (inl l) (inl (inr m)) = let e = m.0 in omega arith
    by (inl l) (inr m) = let e = m.0 in omega arith
    by (inr l) (inl (inl m)) = let e = l.0 in omega arith
    by (inr l) (inl (inr m)) = let e = l.1 in let f = m.1 in omega arith
    by (inr l) (inr m) = let e = l.1 in let f = m.1 in omega arith

pub same_place : (x y : Name) → NoLater x y → NoLater y x → x ≡ y
same_place x y (inr e) q = e
same_place x y (inl p) q = absurd (never_both x y p q)

-- the least of a list is the one that comes no later than the others
pub least_is : (xs : List Name) (x : Name) → IsFirstName xs x → least_of xs ≡ Some x
least_is xs x h = by (least_of xs) refl (first_sorted xs)
  where
    by : (o : Option Name) → least_of xs ≡ o → IsFirstNameOr xs (least_of xs) → least_of xs ≡ Some x
    by None e f = let g = rw e at f in absurd (g x h.member)
    by (Some y) e f = let g : IsFirstName xs y = rw e at f in e ∙ ap Some (same_place y x (g.least x h.member) (h.least y g.member))

pub least_none : (xs : List Name) → ((x : Name) → Member x xs → ⊥) → least_of xs ≡ None
least_none [] h = refl
least_none (x ∷ xs) h = absurd (h x (inl refl))

pub none_least : (xs : List Name) → least_of xs ≡ None → xs ≡ []
none_least [] e = refl
none_least (x ∷ xs) e = let g : IsFirstNameOr (x ∷ xs) None = subst (λ o. IsFirstNameOr (x ∷ xs) o) e (first_sorted (x ∷ xs)) in absurd (g x (inl refl))

pub least_first : (xs : List Name) (x : Name) → least_of xs ≡ Some x → IsFirstName xs x
least_first xs x e = subst (λ o. IsFirstNameOr xs o) e (first_sorted xs)

-- one more name
pub least_more : (xs : List Name) (x : Name) → least_of (xs ++ x ∷ []) ≡ lesser_name (least_of xs) x
least_more xs x = by (least_of xs) refl
  where
    none : (ys : List Name) → ys ≡ [] → least_of (ys ++ x ∷ []) ≡ Some x
    none ys e = ap (λ l. least_of (l ++ x ∷ [])) e

    by : (o : Option Name) → least_of xs ≡ o → least_of (xs ++ x ∷ []) ≡ lesser_name o x
    by None e = none xs (none_least xs e)
    by (Some m) e = lesser (name_lt x m) refl
      where
        f : IsFirstName xs m
        f = least_first xs m e

        kept : NoLater m x → IsFirstName (xs ++ x ∷ []) m
        kept l = record {
          member = member_left xs (x ∷ []) m f.member;
          least = λ z n. elim (member_cases xs (x ∷ []) z n) [
            | inl k ↦ f.least z k
            | inr k ↦ elim k [ inl s ↦ subst (λ w. NoLater m w) s l | inr n ↦ absurd n ]
          ];
        }

        lesser : (b : Bool) → name_lt x m ≡ b → least_of (xs ++ x ∷ []) ≡ Some (if b then x else m)
        lesser true g = least_is (xs ++ x ∷ []) x record {
          member = member_right xs (x ∷ []) x (inl refl);
          least = λ z n. elim (member_cases xs (x ∷ []) z n) [
            | inl k ↦ no_later_still x m z (inl g) (f.least z k)
            | inr k ↦ elim k [ inl s ↦ inr s | inr n ↦ absurd n ]
          ];
        }
        lesser false g = elim (either_way x m) [
          | inl h ↦ (let k : false ≡ true = sym g ∙ h in cc)
          | inr l ↦ least_is (xs ++ x ∷ []) m (kept l)
        ]

-- what a loop over rows keeps
start_names-append : (back : Bool) (xs ys : List BareWalk) → start_names back (xs ++ ys) ≡ start_names back xs ++ start_names back ys
start_names-append back xs ys = ap (map start_name) (filter-append (λ t. not back || is_cyclic t) xs ys) ∙ map-append start_name (filter (λ t. not back || is_cyclic t) xs) (filter (λ t. not back || is_cyclic t) ys)

rows_more : (rows : List WalkRow) (i : ℕ) (r : WalkRow) → i < length rows → r ≡ get_or rows i r → map row_view (take (i + 1) rows) ≡ map row_view (take i rows) ++ row_view r ∷ []
rows_more rows i r l e = ap (map row_view) (take_more rows i r l ∙ ap (λ x. take i rows ++ x ∷ []) (sym e)) ∙ map-append row_view (take i rows) (r ∷ [])

one_start : (b : Bool) (t : BareWalk) → (not b || is_cyclic t) ≡ true → start_names b (t ∷ []) ≡ start_name t ∷ []
one_start b t e = rw e refl

no_start : (b : Bool) (t : BareWalk) → (not b || is_cyclic t) ≡ false → start_names b (t ∷ []) ≡ []
no_start b t e = rw e refl

pub start_taken : (back : Bool) (rows : List WalkRow) (i : ℕ) (r : WalkRow) (least : Option Name) → i < length rows → r ≡ get_or rows i r → (not back || is_cyclic (row_view r)) ≡ true → least ≡ least_of (start_names back (map row_view (take i rows))) → lesser_name least (start_name (row_view r)) ≡ least_of (start_names back (map row_view (take (i + 1) rows)))
start_taken back rows i r least l e h k =
    ap (λ o. lesser_name o (start_name (row_view r))) k
    ∙ sym (least_more (start_names back (map row_view (take i rows))) (start_name (row_view r)))
    ∙ ap (λ ys. least_of (start_names back (map row_view (take i rows)) ++ ys)) (sym (one_start back (row_view r) h))
    ∙ ap least_of (sym (start_names-append back (map row_view (take i rows)) (row_view r ∷ [])))
    ∙ ap (λ l. least_of (start_names back l)) (sym (rows_more rows i r l e))

pub start_left : (back : Bool) (rows : List WalkRow) (i : ℕ) (r : WalkRow) (least : Option Name) → i < length rows → r ≡ get_or rows i r → (not back || is_cyclic (row_view r)) ≡ false → least ≡ least_of (start_names back (map row_view (take i rows))) → least ≡ least_of (start_names back (map row_view (take (i + 1) rows)))
start_left back rows i r least l e h k =
    k
    ∙ ap least_of (sym (append-nil (start_names back (map row_view (take i rows)))))
    ∙ ap (λ ys. least_of (start_names back (map row_view (take i rows)) ++ ys)) (sym (no_start back (row_view r) h))
    ∙ ap least_of (sym (start_names-append back (map row_view (take i rows)) (row_view r ∷ [])))
    ∙ ap (λ l. least_of (start_names back l)) (sym (rows_more rows i r l e))

-- and over destinations
dests_more : (test : Name → Bool) (offset : ℕ) (ds : List Dest) (i : ℕ) (z d : Dest) → i < length ds → d ≡ get_or ds i z → filter test (map (dest_name offset) (take (i + 1) ds)) ≡ filter test (map (dest_name offset) (take i ds)) ++ filter test (dest_name offset d ∷ [])
dests_more test offset ds i z d l e =
    ap (λ l. filter test (map (dest_name offset) l)) (take_more ds i z l ∙ ap (λ x. take i ds ++ x ∷ []) (sym e))
    ∙ ap (filter test) (map-append (dest_name offset) (take i ds) (d ∷ []))
    ∙ filter-append test (map (dest_name offset) (take i ds)) (dest_name offset d ∷ [])

one_passed : (test : Name → Bool) (x : Name) → test x ≡ true → filter test (x ∷ []) ≡ x ∷ []
one_passed test x e = rw e refl

none_passed : (test : Name → Bool) (x : Name) → test x ≡ false → filter test (x ∷ []) ≡ []
none_passed test x e = rw e refl

pub dest_taken : (test : Name → Bool) (offset : ℕ) (ds : List Dest) (i : ℕ) (z d : Dest) (least : Option Name) → i < length ds → d ≡ get_or ds i z → test (dest_name offset d) ≡ true → least ≡ least_of (filter test (map (dest_name offset) (take i ds))) → lesser_name least (dest_name offset d) ≡ least_of (filter test (map (dest_name offset) (take (i + 1) ds)))
dest_taken test offset ds i z d least l e h k =
    ap (λ o. lesser_name o (dest_name offset d)) k
    ∙ sym (least_more (filter test (map (dest_name offset) (take i ds))) (dest_name offset d))
    ∙ ap (λ ys. least_of (filter test (map (dest_name offset) (take i ds)) ++ ys)) (sym (one_passed test (dest_name offset d) h))
    ∙ ap least_of (sym (dests_more test offset ds i z d l e))

pub dest_left : (test : Name → Bool) (offset : ℕ) (ds : List Dest) (i : ℕ) (z d : Dest) (least : Option Name) → i < length ds → d ≡ get_or ds i z → test (dest_name offset d) ≡ false → least ≡ least_of (filter test (map (dest_name offset) (take i ds))) → least ≡ least_of (filter test (map (dest_name offset) (take (i + 1) ds)))
dest_left test offset ds i z d least l e h k =
    k
    ∙ ap least_of (sym (append-nil (filter test (map (dest_name offset) (take i ds)))))
    ∙ ap (λ ys. least_of (filter test (map (dest_name offset) (take i ds)) ++ ys)) (sym (none_passed test (dest_name offset d) h))
    ∙ ap least_of (sym (dests_more test offset ds i z d l e))
