-- What a book keeps of each slot as a grant comes and as one goes: its record, how many grants use it, and its owner.
use Rattle.std.proofs.Common.{◌≡◌, ◌≢◌, ℕ, suc, ◌+◌, ◌-◌, ◌<◌, ◌≤◌, ◌⊎◌, inl, inr, Bool, true, false, if◌then◌else◌, ◌||◌, ◌==◌, not, nat_eq, List, [], ◌∷◌, ◌++◌, length, filter, slice_get, reverse, Option, Some, None, IsTrue, refl, sym, ap, ◌∙◌, subst, arith, eqb-true, eq-eqb, length-append}
use Rattle.std.specs.List.{AllPairs, list_any}
use Rattle.std.proofs.lemmas.List.Elements.{filter-append}
use Rattle.std.proofs.lemmas.List.{reverse-append}
use Rattle.std.proofs.lemmas.Bool.{false≢true}
use Rattle.std.proofs.lemmas.Option.{get_or_from_slice_get, same_Some, slice_get_within}
use Rattle.dn_base.proofs.Orders.{ne_eqb, cases_eq}
use Rattle.dn_base.proofs.Members.{any_member, member_any, member_left, member_right, member_at}
use Rattle.dn_base.proofs.Lists.{filter-none}
use Rattle.dn_net.specs.declared.node.NodeDecl.{NodeDecl}
use Rattle.dn_net.specs.declared.node.Unit.{Unit as UnitPart}
use Rattle.dn_net.specs.Chain.{Member}
use Rattle.dn_net.specs.Decode.{unit_at}
use Rattle.dn_net.specs.Legal.{IsLegalNet}
use Rattle.dn_kind.specs.declared.unit_kind.Record.{Record}
use Rattle.dn_kind.specs.Rights.{are_rights, both_rights}
use Rattle.dn_kind.specs.Tables.{AreHeld, Held, IsHeld}
use Rattle.dn_tables.specs.declared.placement.Hop.{Hop}
use Rattle.dn_placement.specs.Placement.{IsPlacement}
use Rattle.dn_placement.specs.Records.{first_slot, hop_record, hop_rights, last_slot, slot_record}
use Rattle.dn_placement.proofs.Hops.{rights_of}
use Rattle.dn_book.specs.declared.grant.Grant.{Grant}
use Rattle.dn_book.specs.Book.{IsGiven, IsSound, is_taken, open_slots, owner_of, owns_slot, records_of, slots_of, uses_of, uses_slot, without_id}
use Rattle.dn_book.specs.Laws.{IsGrantFor, RevokeClearsSome}
use Rattle.dn_book.specs.Sets.{AreFit, changed_by, is_at, hop_owner, one_use_less, one_use_more, put_at}
use Rattle.dn_book.specs.Tables.{use_of}
use Rattle.dn_book.specs.Writes.{Put, clears_of, empty_slots, grant_slots, hop_slots, hop_slots_by, is_empty, joined_slots, puts_of}
use Rattle.dn_book.proofs.Facts.{none_any}
use Rattle.dn_book.proofs.Changes.{is_at_parts, is_at_self}
use Rattle.dn_book.proofs.Given.{GrantGives, between_gives, by_owns, by_uses, gives_taken, given_by, held_in, held_none, hop_gives, in_held, none_unused, owned_used, owns_by, place_of, taken_gives, unused_none}
use Rattle.dn_book.proofs.Hops.{first_before, last_there}
use Rattle.dn_book.proofs.InOrder.{hop_at, hop_member, in_all, joined_member, turn_front, units_apart, from_behind}
use Rattle.dn_book.proofs.Packed.{after_other, after_there, cleared_other, cleared_there, held_after, held_cleared}
use Rattle.dn_book.proofs.Ranges.{in_hop, of_hop, record_within, slot_count}
use Rattle.dn_book.proofs.Sound.{comes, given_gives, granted_sound, in_without, last_cases, placed_fit, revoked_sound, without_in}

-- THE RECORDS OF SOUND BOOKS ARE RECORDS THAT THE UNITS CAN HOLD

-- what a grant puts is a record that the unit can hold
pub gives_held : (net : List NodeDecl) (g : Grant) → AreFit net g.request.size g.placement.hops → IsTrue (are_rights g.request.rights) → (n q : ℕ) (t : Record) → GrantGives net g n q t → IsHeld net n q t
gives_held net g fit rights n q t h =
    let r = hop_rights g.request.rights g.placement.own h.place in
    let k = hop_gives net g.request.size r h.hop n q t h.gives in
    let u = fit.units h.hop (hop_member g.placement.hops h.place h.hop h.is_hop) in
    let same : u.0 ≡ k.unit = same_Some u.0 k.unit (sym u.1 ∙ k.is_unit) in
    let is : slot_record k.unit r h.hop q ≡ t = same_Some _ t (sym k.is ∙ h.gives) in
    let low : first_slot u.0 h.hop ≤ q = subst (λ (w : UnitPart). first_slot w h.hop ≤ q) (sym same) k.low in
    let high : q ≤ last_slot u.0 g.request.size h.hop = subst (λ (w : UnitPart). q ≤ last_slot w g.request.size h.hop) (sym same) k.high in
    let f = u.2 in
    let last = last_there u.0 g.request.size h.hop f in
    subst (IsHeld net n q) (ap (λ (w : UnitPart). slot_record w r h.hop q) same ∙ is) (record {
      unit = (u.0, ap (unit_at net) k.node ∙ u.1, (omega arith), record_within u.0 r h.hop g.request.size q f low high);
      rights = rights_of g.request.rights g.placement.own h.place rights;
    })

pub book_held : (net : List NodeDecl) → IsLegalNet net → (book : List Grant) → IsSound net book → AreHeld net (records_of net book)
book_held net legal book sound n q t e =
    let h = held_in net book n q t e in
    let g = sound.grants h.grant h.is_grant in
    gives_held net h.grant (placed_fit net legal _ h.grant.request h.grant.placement g.placed) g.rights n q t (given_gives net book n q t h)

-- THE SLOTS OF A GRANT

-- a put of a grant is what one of its hops gives
pub record PutGives (net : List NodeDecl) (g : Grant) (s : Put) : Type 0 where
  pub gives : GrantGives net g s.unit s.slot s.holds

put_gives_at : (net : List NodeDecl) (g : Grant) → AreFit net g.request.size g.placement.hops → (j : ℕ) (l : List Put) → slice_get (grant_slots net g) j ≡ Some l → (s : Put) → Member s l → PutGives net g s
put_gives_at net g fit j l e s m =
    let h = hop_at net g j l e in
    let r = hop_rights g.request.rights g.placement.own j in
    let u = fit.units h.hop (hop_member g.placement.hops j h.hop h.at) in
    let n : Member s (hop_slots_by (unit_at net h.hop.unit) g.request.size r h.hop) = subst (Member s) h.slots m in
    let i = of_hop u.0 r h.hop (first_slot u.0 h.hop) (slot_count u.0 g.request.size h.hop) s (subst (λ o. Member s (hop_slots_by o g.request.size r h.hop)) u.1 n) in
    let low = i.low in
    let high = i.high in
    let b = first_before u.0 g.request.size h.hop u.2 in
    let at : hop_record net g.request.size r h.hop h.hop.unit s.slot ≡ Some (slot_record u.0 r h.hop s.slot) = between_gives net g.request.size r h.hop u.0 s.slot u.1 low (omega arith) in
    let unit : s.unit ≡ h.hop.unit = ap (λ (t : Put). t.unit) i.is in
    let holds : s.holds ≡ slot_record u.0 r h.hop s.slot = ap (λ (t : Put). t.holds) i.is in
    record { gives = record { place = j; hop = h.hop; is_hop = h.at; gives = ap (λ m. hop_record net g.request.size r h.hop m s.slot) unit ∙ at ∙ ap Some (sym holds) } }

-- the hop at a place gives a record
pub record GivesBy (net : List NodeDecl) (g : Grant) (place : ℕ) (hop : Hop) (n q : ℕ) (t : Record) : Type 0 where
  pub gives : hop_record net g.request.size (hop_rights g.request.rights g.placement.own place) hop n q ≡ Some t
  pub at : slice_get g.placement.hops place ≡ Some hop

pub by_place : (net : List NodeDecl) (g : Grant) (place : ℕ) (hop : Hop) (n q : ℕ) (t : Record) → GivesBy net g place hop n q t → GrantGives net g n q t
by_place net g place hop n q t h = record { place = place; hop = hop; is_hop = h.at; gives = h.gives }

-- from the agent's end
pub put_gives : (net : List NodeDecl) (g : Grant) → AreFit net g.request.size g.placement.hops → (s : Put) → Member s (joined_slots (grant_slots net g)) → PutGives net g s
put_gives net g fit s m = let i = in_all (grant_slots net g) s m in put_gives_at net g fit i.place i.list i.at s i.is_in

-- and from memory's end
pub put_gives_behind : (net : List NodeDecl) (g : Grant) → AreFit net g.request.size g.placement.hops → (s : Put) → Member s (joined_slots (reverse (grant_slots net g))) → PutGives net g s
put_gives_behind net g fit s m =
    let i = in_all (reverse (grant_slots net g)) s m in
    put_gives_at net g fit (length g.placement.hops - 1 - i.place) i.list (from_behind net g i.place i.list i.at) s i.is_in

-- and of one hop, whatever the rights that it is asked with
pub hop_put_gives : (net : List NodeDecl) (g : Grant) → AreFit net g.request.size g.placement.hops → (place : ℕ) (hop : Hop) → slice_get g.placement.hops place ≡ Some hop → (s : Put) → Member s (hop_slots net g.request.size both_rights hop) → (t : Record) × GivesBy net g place hop s.unit s.slot t
hop_put_gives net g fit place hop at s m =
    let u = fit.units hop (hop_member g.placement.hops place hop at) in
    let i = of_hop u.0 both_rights hop (first_slot u.0 hop) (slot_count u.0 g.request.size hop) s (subst (λ o. Member s (hop_slots_by o g.request.size both_rights hop)) u.1 m) in
    let low = i.low in
    let high = i.high in
    let b = first_before u.0 g.request.size hop u.2 in
    let r = hop_rights g.request.rights g.placement.own place in
    let unit : s.unit ≡ hop.unit = ap (λ (t : Put). t.unit) i.is in
    (slot_record u.0 r hop s.slot, record { gives = ap (λ m. hop_record net g.request.size r hop m s.slot) unit ∙ between_gives net g.request.size r hop u.0 s.slot u.1 low (omega arith); at = at })

-- what a hop gives is one of the puts
pub gives_put_at : (net : List NodeDecl) (g : Grant) (n q : ℕ) (t : Record) (h : GrantGives net g n q t) → Member (record { unit = n; slot = q; holds = t }) (hop_slots net g.request.size (hop_rights g.request.rights g.placement.own h.place) h.hop)
gives_put_at net g n q t h =
    let r = hop_rights g.request.rights g.placement.own h.place in
    let k = hop_gives net g.request.size r h.hop n q t h.gives in
    let is : slot_record k.unit r h.hop q ≡ t = same_Some _ t (sym k.is ∙ h.gives) in
    let low = k.low in
    let high = k.high in
    let count : first_slot k.unit h.hop + slot_count k.unit g.request.size h.hop ≡ suc (last_slot k.unit g.request.size h.hop) = omega arith in
    let m : Member (put_at h.hop.unit q (slot_record k.unit r h.hop q)) (hop_slots_by (Some k.unit) g.request.size r h.hop) = in_hop k.unit r h.hop (first_slot k.unit h.hop) (slot_count k.unit g.request.size h.hop) q low (omega arith) in
    subst (λ o. Member (put_at n q t) (hop_slots_by o g.request.size r h.hop)) (sym k.is_unit)
    (subst (λ x. Member (put_at x q t) (hop_slots_by (Some k.unit) g.request.size r h.hop)) (sym k.node)
    (subst (λ x. Member (put_at h.hop.unit q x) (hop_slots_by (Some k.unit) g.request.size r h.hop)) is m))

pub gives_put : (net : List NodeDecl) (g : Grant) (n q : ℕ) (t : Record) → GrantGives net g n q t → Member (record { unit = n; slot = q; holds = t }) (joined_slots (grant_slots net g))
gives_put net g n q t h = joined_member (grant_slots net g) h.place _ (put_at n q t) (turn_front net g h.place h.hop h.is_hop) (gives_put_at net g n q t h)

member_behind : {X : Type 0} (xs : List X) (x : X) → Member x xs → Member x (reverse xs)
member_behind [] x m = absurd m
member_behind {X} (y ∷ xs) x m = subst (Member x) (sym (reverse-append (y ∷ []) xs)) (by m (member_behind xs x))
  where
    by : (y ≡ x) ⊎ Member x xs → (Member x xs → Member x (reverse xs)) → Member x (reverse xs ++ y ∷ [])
    by (inl e) later = member_right (reverse xs) (y ∷ []) x (inl e)
    by (inr n) later = member_left (reverse xs) (y ∷ []) x (later n)

pub gives_put_behind : (net : List NodeDecl) (g : Grant) (n q : ℕ) (t : Record) → GrantGives net g n q t → Member (record { unit = n; slot = q; holds = t }) (joined_slots (reverse (grant_slots net g)))
gives_put_behind net g n q t h =
    let at = turn_front net g h.place h.hop h.is_hop in
    let m = member_behind (grant_slots net g) _ (member_at (grant_slots net g) h.place _ at) in
    let p = place_of (reverse (grant_slots net g)) _ m in
    joined_member (reverse (grant_slots net g)) p.0 _ (put_at n q t) p.1 (gives_put_at net g n q t h)

-- SLOTS THAT HOLD NO RECORD

pub empty_in : (h : Held) (ss : List Put) (s : Put) → Member s (empty_slots h ss) → Member s ss × (h s.unit s.slot ≡ None)
empty_in h [] s m = absurd m
empty_in h (t ∷ ss) s m = go (empty_in h ss s) (h t.unit t.slot) refl m
  where
    go : (Member s (empty_slots h ss) → Member s ss × (h s.unit s.slot ≡ None)) → (o : Option Record) → h t.unit t.slot ≡ o → Member s (if is_empty o then t ∷ empty_slots h ss else empty_slots h ss) → Member s (t ∷ ss) × (h s.unit s.slot ≡ None)
    go later None e (inl same) = (inl same, subst (λ (w : Put). h w.unit w.slot ≡ None) same e)
    go later None e (inr m) = let r = later m in (inr r.0, r.1)
    go later (Some v) e m = let r = later m in (inr r.0, r.1)

pub in_empty : (h : Held) (ss : List Put) (s : Put) → Member s ss → h s.unit s.slot ≡ None → Member s (empty_slots h ss)
in_empty h [] s m e = absurd m
in_empty h (t ∷ ss) s m e = go (in_empty h ss s) m (h t.unit t.slot) refl
  where
    go : (Member s ss → h s.unit s.slot ≡ None → Member s (empty_slots h ss)) → (t ≡ s) ⊎ Member s ss → (o : Option Record) → h t.unit t.slot ≡ o → Member s (if is_empty o then t ∷ empty_slots h ss else empty_slots h ss)
    go later (inl same) None f = inl same
    go later (inr m) None f = inr (later m e)
    go later (inr m) (Some v) f = later m e
    go later (inl same) (Some v) f = let c : Some v ≡ None = sym f ∙ ap (λ (w : Put). h w.unit w.slot) same ∙ e in cc

-- COUNTS

none_owned : (net : List NodeDecl) (n q : ℕ) (ks : List Grant) → list_any (owns_slot net n q) ks ≡ false → owner_of net ks n q ≡ None
none_owned net n q [] e = refl
none_owned net n q (k ∷ ks) e = by (owns_slot net n q k) (none_owned net n q ks) e
  where
    by : (b : Bool) → (list_any (owns_slot net n q) ks ≡ false → owner_of net ks n q ≡ None) → (b || list_any (owns_slot net n q) ks) ≡ false → (if b then Some k.id else owner_of net ks n q) ≡ None
    by true later e = cc
    by false later e = later e

filter_fewer : {X : Type 0} (p : X → Bool) (xs : List X) → length (filter p xs) ≤ length xs
filter_fewer p [] = omega arith
filter_fewer {X} p (x ∷ xs) = by (p x) (filter_fewer p xs)
  where
    by : (b : Bool) → length (filter p xs) ≤ length xs → length (if b then x ∷ filter p xs else filter p xs) ≤ suc (length xs)
    by true l = omega arith
    by false l = omega arith

one_less_zero : (k : ℕ) → (k + 1 == 1) ≡ (k == 0)
one_less_zero k = grind arith

-- a slot that no grant uses is one that holds no record
pub used_zero : (net : List NodeDecl) (book : List Grant) (n q : ℕ) → (uses_of net book n q == 0) ≡ is_empty (records_of net book n q)
used_zero net book n q = filter-none (uses_slot net n q) book ∙ by (records_of net book n q) refl (list_any (uses_slot net n q) book) refl
  where
    by : (o : Option Record) → records_of net book n q ≡ o → (b : Bool) → list_any (uses_slot net n q) book ≡ b → not b ≡ is_empty o
    by None e true f = let c : true ≡ false = sym f ∙ none_unused net book n q e in cc
    by None e false f = refl
    by (Some r) e true f = refl
    by (Some r) e false f = let c : Some r ≡ None = sym e ∙ unused_none net book n q f in cc

-- a slot is used by no more grants than there are
pub few_uses : (net : List NodeDecl) (book : List Grant) (n q : ℕ) → uses_of net book n q ≤ length book
few_uses net book n q = filter_fewer (uses_slot net n q) book

-- where a grant passes a test, one fewer passes it without the grant
count_without : (p : Grant → Bool) (g : Grant) (ks : List Grant) → AllPairs (λ (a b : Grant). a.id ≢ b.id) ks → Member g ks → length (filter p ks) ≡ length (filter p (without_id g.id ks)) + (if p g then 1 else 0)
count_without p g [] ids m = absurd m
count_without p g (k ∷ ks) ids m = go m (λ n. count_without p g ks (λ i j d l o. ids (suc i) (suc j) d (omega arith) (omega arith)) n)
  where
    apart : (j : Grant) → Member j ks → k.id ≡ j.id → ⊥
    apart j i f =
        let at = place_of ks j i in
        let l = slice_get_within ks at.0 j at.1 in
        ids 0 (suc at.0) k (omega arith) (omega arith) (f ∙ ap (λ (w : Grant). w.id) (sym (get_or_from_slice_get ks at.0 j k at.1)))

    all_stay : (js : List Grant) → ((j : Grant) → Member j js → j.id ≢ g.id) → without_id g.id js ≡ js
    all_stay [] ne = refl
    all_stay (j ∷ js) ne = by (j.id == g.id) refl (all_stay js (λ w i. ne w (inr i)))
      where
        by : (b : Bool) → (j.id == g.id) ≡ b → without_id g.id js ≡ js → (if not b then j ∷ without_id g.id js else without_id g.id js) ≡ j ∷ js
        by true e later = absurd (ne j (inl refl) (eqb-true j.id g.id e))
        by false e later = ap (λ (l : List Grant). j ∷ l) later

    head : (b : Bool) (xs : List Grant) → length (if b then k ∷ xs else xs) ≡ length xs + (if b then 1 else 0)
    head true xs = omega arith
    head false xs = omega arith

    go : (k ≡ g) ⊎ Member g ks → (Member g ks → length (filter p ks) ≡ length (filter p (without_id g.id ks)) + (if p g then 1 else 0)) → length (filter p (k ∷ ks)) ≡ length (filter p (without_id g.id (k ∷ ks))) + (if p g then 1 else 0)
    go (inl e) later =
        let stay : without_id g.id ks ≡ ks = all_stay ks (λ j i f. apart j i (ap (λ (w : Grant). w.id) e ∙ sym f)) in
        let gone : without_id g.id (k ∷ ks) ≡ ks = ap (λ b. if not b then k ∷ without_id g.id ks else without_id g.id ks) (eq-eqb k.id g.id (ap (λ (w : Grant). w.id) e)) ∙ stay in
        head (p k) (filter p ks) ∙ ap (λ (j : Grant). length (filter p ks) + (if p j then 1 else 0)) e ∙ ap (λ l. length (filter p l) + (if p g then 1 else 0)) (sym gone)
    go (inr n) later =
        let kept : without_id g.id (k ∷ ks) ≡ k ∷ without_id g.id ks = ap (λ b. if not b then k ∷ without_id g.id ks else without_id g.id ks) (ne_eqb k.id g.id (apart g n)) in
        let a = head (p k) (filter p ks) in
        let b = head (p k) (filter p (without_id g.id ks)) in
        let c = later n in
        let d : length (filter p (without_id g.id (k ∷ ks))) ≡ length (if p k then k ∷ filter p (without_id g.id ks) else filter p (without_id g.id ks)) = ap (λ l. length (filter p l)) kept in
        omega arith

-- a test that says which slots hold no record picks them
pub picked_empty : (h : Held) (p : Put → Bool) (ss : List Put) → ((s : Put) → Member s ss → p s ≡ is_empty (h s.unit s.slot)) → filter p ss ≡ empty_slots h ss
picked_empty h p [] e = refl
picked_empty h p (s ∷ ss) e = ap (λ b. if b then s ∷ filter p ss else filter p ss) (e s (inl refl)) ∙ ap (λ (l : List Put). if is_empty (h s.unit s.slot) then s ∷ l else l) (picked_empty h p ss (λ t m. e t (inr m)))

-- a slot is one of some puts, or none of them
some_put : (ss : List Put) (n q : ℕ) → ((s : Put) × Member s ss × (n ≡ s.unit) × (q ≡ s.slot)) ⊎ ((s : Put) → Member s ss → n ≡ s.unit → q ≡ s.slot → ⊥)
some_put ss n q = by (list_any (is_at n q) ss) refl
  where
    by : (b : Bool) → list_any (is_at n q) ss ≡ b → ((s : Put) × Member s ss × (n ≡ s.unit) × (q ≡ s.slot)) ⊎ ((s : Put) → Member s ss → n ≡ s.unit → q ≡ s.slot → ⊥)
    by true e =
        let a = any_member (is_at n q) ss e in
        let p = is_at_parts n q a.0 a.2 in
        inl (a.0, a.1, p.0, p.1)
    by false e = inr (λ s m a b. (let c : true ≡ false = sym (member_any (is_at n q) ss s m (is_at_self n q s a b)) ∙ e in cc))

-- THE RECORDS AS A GRANT COMES

module _ (net : List NodeDecl) (legal : IsLegalNet net) (book : List Grant) (g : Grant) (sound : IsSound net book) (f : IsGrantFor net book g) where
  fit : AreFit net g.request.size g.placement.hops
  fit = placed_fit net legal (slots_of net book) g.request g.placement f.placed

  after : IsSound net (book ++ g ∷ [])
  after = granted_sound net legal book g sound f

  mine : Member g (book ++ g ∷ [])
  mine = member_right book (g ∷ []) g (inl refl)

  -- the puts give the records of the new book
  pub puts_are : (s : Put) → Member s (puts_of net book g) → records_of net (book ++ g ∷ []) s.unit s.slot ≡ Some s.holds
  puts_are s m =
      let e = empty_in (records_of net book) (joined_slots (reverse (grant_slots net g))) s m in
      in_held net (book ++ g ∷ []) after.agree s.unit s.slot s.holds (given_by net (book ++ g ∷ []) g s.unit s.slot s.holds mine (put_gives_behind net g fit s e.0).gives)

  pub puts_held : (s : Put) → Member s (puts_of net book g) → IsHeld net s.unit s.slot s.holds
  puts_held s m = book_held net legal (book ++ g ∷ []) after s.unit s.slot s.holds (puts_are s m)

  -- and so all its records are put
  pub records_granted : (n q : ℕ) → held_after (records_of net book) (puts_of net book g) n q ≡ records_of net (book ++ g ∷ []) n q
  records_granted n q = elim (some_put (puts_of net book g) n q) [
    | inl s ↦ after_there (records_of net book) (records_of net (book ++ g ∷ [])) (puts_of net book g) n q puts_are s.0 s.1 s.2 s.3
    | inr none ↦ after_other (records_of net book) (puts_of net book g) n q none ∙ same (records_of net book n q) (records_of net (book ++ g ∷ []) n q) refl refl none
  ]
    where
      same : (o p : Option Record) → records_of net book n q ≡ o → records_of net (book ++ g ∷ []) n q ≡ p → ((s : Put) → Member s (puts_of net book g) → n ≡ s.unit → q ≡ s.slot → ⊥) → o ≡ p
      same (Some r) p eo ep none =
          let h = held_in net book n q r eo in
          let k : IsGiven net (book ++ g ∷ []) n q r = given_by net (book ++ g ∷ []) h.grant n q r (member_left book (g ∷ []) h.grant h.is_grant) (given_gives net book n q r h) in
          sym (in_held net (book ++ g ∷ []) after.agree n q r k) ∙ ep
      same None None eo ep none = refl
      same None (Some r) eo ep none =
          let h = held_in net (book ++ g ∷ []) n q r ep in
          elim (last_cases book g h.grant h.is_grant) [
            | inl m ↦ absurd (held_none net book n q r eo (given_by net book h.grant n q r m (given_gives net (book ++ g ∷ []) n q r h)))
            | inr e ↦ (let k : GrantGives net g n q r = subst (λ w. GrantGives net w n q r) (sym e) (given_gives net (book ++ g ∷ []) n q r h) in absurd (none (put_at n q r) (in_empty (records_of net book) (joined_slots (reverse (grant_slots net g))) (put_at n q r) (gives_put_behind net g n q r k) eo) refl refl))
          ]

  -- USES AS A GRANT COMES

  more_uses : (n q : ℕ) → uses_of net (book ++ g ∷ []) n q ≡ uses_of net book n q + (if uses_slot net n q g then 1 else 0)
  more_uses n q =
      ap length (filter-append (uses_slot net n q) book (g ∷ []))
      ∙ length-append (filter (uses_slot net n q) book) (filter (uses_slot net n q) (g ∷ []))
      ∙ ap (λ k. uses_of net book n q + k) (one (uses_slot net n q g))
    where
      one : (b : Bool) → length (if b then g ∷ [] else []) ≡ (if b then 1 else 0)
      one true = refl
      one false = refl

  owner_more : (n q : ℕ) (ks : List Grant) → owner_of net (ks ++ g ∷ []) n q ≡ (if list_any (owns_slot net n q) ks then owner_of net ks n q else (if owns_slot net n q g then Some g.id else None))
  owner_more n q [] = refl
  owner_more n q (k ∷ ks) = by (owns_slot net n q k) (owner_more n q ks)
    where
      by : (b : Bool) → owner_of net (ks ++ g ∷ []) n q ≡ (if list_any (owns_slot net n q) ks then owner_of net ks n q else (if owns_slot net n q g then Some g.id else None)) → (if b then Some k.id else owner_of net (ks ++ g ∷ []) n q) ≡ (if b || list_any (owns_slot net n q) ks then (if b then Some k.id else owner_of net ks n q) else (if owns_slot net n q g then Some g.id else None))
      by true e = refl
      by false e = e

  -- no live grant owns a slot that the new one uses
  pub not_owned : (n q : ℕ) → uses_slot net n q g ≡ true → list_any (owns_slot net n q) book ≡ false
  not_owned n q u = none_any (owns_slot net n q) book (λ x m e. false≢true (sym ((comes net legal book sound g f.placed).unowned n q x m e) ∙ u))

  pub no_owner_of : (n q : ℕ) → uses_slot net n q g ≡ true → owner_of net book n q ≡ None
  no_owner_of n q u = none_owned net n q book (not_owned n q u)

  -- the use of a slot that the new grant takes by the hop at a place
  taken_use : (n q place : ℕ) (hop : Hop) → slice_get g.placement.hops place ≡ Some hop → is_taken net g.request.size n q hop ≡ true → one_use_more (hop_owner g.id g.placement.own place) (use_of net book n q) ≡ use_of net (book ++ g ∷ []) n q
  taken_use n q place hop at t =
      let u : uses_slot net n q g ≡ true = by_uses net g n q place hop at t in
      let uses : uses_of net (book ++ g ∷ []) n q ≡ uses_of net book n q + 1 = more_uses n q ∙ ap (λ b. uses_of net book n q + (if b then 1 else 0)) u in
      let owner : owner_of net (book ++ g ∷ []) n q ≡ (if owns_slot net n q g then Some g.id else None) = owner_more n q book ∙ ap (λ b. if b then owner_of net book n q else (if owns_slot net n q g then Some g.id else None)) (not_owned n q u) in
      let owned : owns_slot net n q g ≡ nat_eq place g.placement.own = by (nat_eq place g.placement.own) refl in
      ap (λ b. record { uses = uses_of net book n q + 1; owner = (if b then Some g.id else None) }) (sym owned)
      ∙ ap (λ o. record { uses = uses_of net book n q + 1; owner = o }) (sym owner)
      ∙ ap (λ k. record { uses = k; owner = owner_of net (book ++ g ∷ []) n q }) (sym uses)
    where
      by : (b : Bool) → nat_eq place g.placement.own ≡ b → owns_slot net n q g ≡ b
      by true e = by_owns net g n q hop (subst (λ m. slice_get g.placement.hops m ≡ Some hop) (eqb-true place g.placement.own e) at) t
      by false e = not_own (owns_slot net n q g) refl
        where
          not_own : (c : Bool) → owns_slot net n q g ≡ c → c ≡ false
          not_own false h = refl
          not_own true h =
              let o = owns_by net g n q h in
              let a = taken_gives net g.request.size both_rights hop n q t in
              let d = taken_gives net g.request.size both_rights o.hop n q o.taken in
              absurd (units_apart g.placement.hops place g.placement.own hop o.hop fit.apart at o.is_hop (λ s. (let x : true ≡ false = sym (eq-eqb place g.placement.own s) ∙ e in cc)) (sym a.node ∙ d.node))

  -- and of one that it does not take
  free_use : (n q : ℕ) → uses_slot net n q g ≡ false → use_of net book n q ≡ use_of net (book ++ g ∷ []) n q
  free_use n q u =
      let z : uses_of net book n q + 0 ≡ uses_of net book n q = omega arith in
      let uses : uses_of net (book ++ g ∷ []) n q ≡ uses_of net book n q = more_uses n q ∙ ap (λ b. uses_of net book n q + (if b then 1 else 0)) u ∙ z in
      let own : owns_slot net n q g ≡ false = not_own (owns_slot net n q g) refl in
      let owner : owner_of net (book ++ g ∷ []) n q ≡ owner_of net book n q = owner_more n q book ∙ ap (λ b. if list_any (owns_slot net n q) book then owner_of net book n q else (if b then Some g.id else None)) own ∙ by (list_any (owns_slot net n q) book) refl in
      ap (λ k. record { uses = k; owner = owner_of net book n q }) (sym uses) ∙ ap (λ o. record { uses = uses_of net (book ++ g ∷ []) n q; owner = o }) (sym owner)
    where
      not_own : (c : Bool) → owns_slot net n q g ≡ c → c ≡ false
      not_own false h = refl
      not_own true h = let x : true ≡ false = sym (owned_used net g n q h) ∙ u in cc

      by : (b : Bool) → list_any (owns_slot net n q) book ≡ b → (if b then owner_of net book n q else None) ≡ owner_of net book n q
      by true e = refl
      by false e = sym (none_owned net n q book e)

  -- the uses of all slots
  pub uses_granted : (n q : ℕ) → changed_by net g.request.size (λ place. one_use_more (hop_owner g.id g.placement.own place)) 0 g.placement.hops n q (use_of net book n q) ≡ use_of net (book ++ g ∷ []) n q
  uses_granted n q = walk 0 g.placement.hops (λ j hop e. (let z : 0 + j ≡ j = omega arith in ap (slice_get g.placement.hops) z ∙ e)) refl
    where
      walk : (first : ℕ) (hops : List Hop) → ((j : ℕ) (hop : Hop) → slice_get hops j ≡ Some hop → slice_get g.placement.hops (first + j) ≡ Some hop) → list_any (is_taken net g.request.size n q) hops ≡ uses_slot net n q g → changed_by net g.request.size (λ place. one_use_more (hop_owner g.id g.placement.own place)) first hops n q (use_of net book n q) ≡ use_of net (book ++ g ∷ []) n q
      walk first [] at e = free_use n q (sym e)
      walk first (hop ∷ hops) at e = go (is_taken net g.request.size n q hop) refl (walk (suc first) hops (λ j k f. (let z : suc first + j ≡ first + suc j = omega arith in ap (slice_get g.placement.hops) z ∙ at (suc j) k f)))
        where
          go : (b : Bool) → is_taken net g.request.size n q hop ≡ b → (list_any (is_taken net g.request.size n q) hops ≡ uses_slot net n q g → changed_by net g.request.size (λ place. one_use_more (hop_owner g.id g.placement.own place)) (suc first) hops n q (use_of net book n q) ≡ use_of net (book ++ g ∷ []) n q) → (if b then one_use_more (hop_owner g.id g.placement.own first) (use_of net book n q) else changed_by net g.request.size (λ place. one_use_more (hop_owner g.id g.placement.own place)) (suc first) hops n q (use_of net book n q)) ≡ use_of net (book ++ g ∷ []) n q
          go true t later = let z : first + 0 ≡ first = omega arith in taken_use n q first hop (ap (slice_get g.placement.hops) (sym z) ∙ at 0 hop refl) t
          go false t later = later (ap (λ b. b || list_any (is_taken net g.request.size n q) hops) (sym t) ∙ e)

-- THE RECORDS AS A GRANT GOES

module _ (net : List NodeDecl) (legal : IsLegalNet net) (book : List Grant) (g : Grant) (sound : IsSound net book) (live : Member g book) where
  left : IsSound net (without_id g.id book)
  left = revoked_sound net g.id book sound

  goes : AreFit net g.request.size g.placement.hops
  goes = placed_fit net legal _ g.request g.placement (sound.grants g live).placed

  -- a live grant of the id is this one
  pub one_grant : (k : Grant) → Member k book → k.id ≡ g.id → k ≡ g
  one_grant k m e = by (place_of book k m) (place_of book g live)
    where
      pairs : (i j : ℕ) → slice_get book i ≡ Some k → slice_get book j ≡ Some g → (i ≡ j) ⊎ (i ≡ j → ⊥) → k ≡ g
      pairs i j ei ej (inl s) = same_Some k g (sym ei ∙ ap (slice_get book) s ∙ ej)
      pairs i j ei ej (inr ne) = absurd (order (cases i j))
        where
          cases : (i j : ℕ) → (i < j) ⊎ ((j < i) ⊎ (i ≡ j))
          cases i j = grind arith

          order : (i < j) ⊎ ((j < i) ⊎ (i ≡ j)) → ⊥
          order (inl l) = sound.ids i j k l (slice_get_within book j g ej) (ap (λ (w : Grant). w.id) (get_or_from_slice_get book i k k ei) ∙ e ∙ ap (λ (w : Grant). w.id) (sym (get_or_from_slice_get book j g k ej)))
          order (inr (inl l)) = sound.ids j i k l (slice_get_within book i k ei) (ap (λ (w : Grant). w.id) (get_or_from_slice_get book j g k ej) ∙ sym e ∙ ap (λ (w : Grant). w.id) (sym (get_or_from_slice_get book i k k ei)))
          order (inr (inr s)) = ne s

      by : (i : ℕ) × (slice_get book i ≡ Some k) → (j : ℕ) × (slice_get book j ≡ Some g) → k ≡ g
      by p r = pairs p.0 r.0 p.1 r.1 (cases_eq p.0 r.0)

  more : (n q : ℕ) (r : Record) → records_of net (without_id g.id book) n q ≡ Some r → records_of net book n q ≡ Some r
  more n q r e =
      let h = held_in net (without_id g.id book) n q r e in
      in_held net book sound.agree n q r (given_by net book h.grant n q r (without_in g.id book h.grant h.is_grant).0 (given_gives net (without_id g.id book) n q r h))

  -- what is cleared is a slot that is there
  pub clears_there : (s : Put) → Member s (clears_of net book g) → (u : UnitPart) × (unit_at net s.unit ≡ Some u) × (s.slot < u.slots)
  clears_there s m =
      let e = empty_in (records_of net (without_id g.id book)) (joined_slots (grant_slots net g)) s m in
      let h = (gives_held net g goes (sound.grants g live).rights s.unit s.slot s.holds (put_gives net g goes s e.0).gives).unit in
      (h.0, h.1, h.2)

  -- and so the records of the others are left
  pub records_revoked : (n q : ℕ) → held_cleared (records_of net book) (clears_of net book g) n q ≡ records_of net (without_id g.id book) n q
  records_revoked n q = elim (some_put (clears_of net book g) n q) [
    | inl s ↦ cleared_there (records_of net book) (clears_of net book g) n q s.0 s.1 s.2 s.3 ∙ sym (none_there s.0 s.1 s.2 s.3)
    | inr none ↦ cleared_other (records_of net book) (clears_of net book g) n q none ∙ same (records_of net book n q) (records_of net (without_id g.id book) n q) refl refl none
  ]
    where
      none_there : (s : Put) → Member s (clears_of net book g) → n ≡ s.unit → q ≡ s.slot → records_of net (without_id g.id book) n q ≡ None
      none_there s m a b =
          let e = empty_in (records_of net (without_id g.id book)) (joined_slots (grant_slots net g)) s m in
          ap (λ k. records_of net (without_id g.id book) k q) a ∙ ap (records_of net (without_id g.id book) s.unit) b ∙ e.1

      same : (o p : Option Record) → records_of net book n q ≡ o → records_of net (without_id g.id book) n q ≡ p → ((s : Put) → Member s (clears_of net book g) → n ≡ s.unit → q ≡ s.slot → ⊥) → o ≡ p
      same o (Some r) eo ep none = sym eo ∙ more n q r ep
      same None None eo ep none = refl
      same (Some r) None eo ep none =
          let h = held_in net book n q r eo in
          elim (cases_eq h.grant.id g.id) [
            | inl e ↦ (let k : GrantGives net g n q r = subst (λ w. GrantGives net w n q r) (one_grant h.grant h.is_grant e) (given_gives net book n q r h) in absurd (none (put_at n q r) (in_empty (records_of net (without_id g.id book)) (joined_slots (grant_slots net g)) (put_at n q r) (gives_put net g n q r k) ep) refl refl))
            | inr ne ↦ absurd (held_none net (without_id g.id book) n q r ep (given_by net (without_id g.id book) h.grant n q r (in_without g.id book h.grant h.is_grant ne) (given_gives net book n q r h)))
          ]

  -- USES AS A GRANT GOES

  fewer_uses : (n q : ℕ) → uses_of net book n q ≡ uses_of net (without_id g.id book) n q + (if uses_slot net n q g then 1 else 0)
  fewer_uses n q = count_without (uses_slot net n q) g book sound.ids live

  -- a slot that the grant uses has one use less, and no owner
  less_use : (n q : ℕ) → uses_slot net n q g ≡ true → one_use_less (use_of net book n q) ≡ use_of net (without_id g.id book) n q
  less_use n q u =
      let e : uses_of net book n q ≡ uses_of net (without_id g.id book) n q + 1 = fewer_uses n q ∙ ap (λ b. uses_of net (without_id g.id book) n q + (if b then 1 else 0)) u in
      let uses : uses_of net book n q - 1 ≡ uses_of net (without_id g.id book) n q = omega arith in
      ap (λ k. record { uses = k; owner = None }) uses ∙ ap (λ o. record { uses = uses_of net (without_id g.id book) n q; owner = o }) (sym (none_owned net n q (without_id g.id book) none))
    where
      none : list_any (owns_slot net n q) (without_id g.id book) ≡ false
      none = none_any (owns_slot net n q) (without_id g.id book) (λ x m e. (let k = without_in g.id book x m in false≢true (sym (sound.alone x g k.0 live k.1 n q e) ∙ u)))

  -- and another one is used as before
  same_use : (n q : ℕ) → uses_slot net n q g ≡ false → use_of net book n q ≡ use_of net (without_id g.id book) n q
  same_use n q u =
      let z : uses_of net (without_id g.id book) n q + 0 ≡ uses_of net (without_id g.id book) n q = omega arith in
      let uses : uses_of net book n q ≡ uses_of net (without_id g.id book) n q = fewer_uses n q ∙ ap (λ b. uses_of net (without_id g.id book) n q + (if b then 1 else 0)) u ∙ z in
      ap (λ k. record { uses = k; owner = owner_of net book n q }) uses ∙ ap (λ o. record { uses = uses_of net (without_id g.id book) n q; owner = o }) (sym (kept book (λ k i. i)))
    where
      not_own : (c : Bool) → owns_slot net n q g ≡ c → c ≡ false
      not_own false h = refl
      not_own true h = let x : true ≡ false = sym (owned_used net g n q h) ∙ u in cc

      kept : (ks : List Grant) → ((k : Grant) → Member k ks → Member k book) → owner_of net (without_id g.id ks) n q ≡ owner_of net ks n q
      kept [] sub = refl
      kept (k ∷ ks) sub = by (k.id == g.id) refl (kept ks (λ j i. sub j (inr i)))
        where
          by : (b : Bool) → (k.id == g.id) ≡ b → owner_of net (without_id g.id ks) n q ≡ owner_of net ks n q → owner_of net (if not b then k ∷ without_id g.id ks else without_id g.id ks) n q ≡ (if owns_slot net n q k then Some k.id else owner_of net ks n q)
          by true e later =
              let same : k ≡ g = one_grant k (sub k (inl refl)) (eqb-true k.id g.id e) in
              let own : owns_slot net n q k ≡ false = ap (owns_slot net n q) same ∙ not_own (owns_slot net n q g) refl in
              later ∙ sym (ap (λ b. if b then Some k.id else owner_of net ks n q) own)
          by false e later = ap (λ o. if owns_slot net n q k then Some k.id else o) later

  -- the uses of all slots
  pub uses_revoked : (n q : ℕ) → changed_by net g.request.size (λ place. one_use_less) 0 g.placement.hops n q (use_of net book n q) ≡ use_of net (without_id g.id book) n q
  uses_revoked n q = walk 0 g.placement.hops refl (λ hop m t. (let at = place_of g.placement.hops hop m in by_uses net g n q at.0 hop at.1 t))
    where
      walk : (first : ℕ) (hops : List Hop) → list_any (is_taken net g.request.size n q) hops ≡ uses_slot net n q g → ((hop : Hop) → Member hop hops → is_taken net g.request.size n q hop ≡ true → uses_slot net n q g ≡ true) → changed_by net g.request.size (λ place. one_use_less) first hops n q (use_of net book n q) ≡ use_of net (without_id g.id book) n q
      walk first [] e u = same_use n q (sym e)
      walk first (hop ∷ hops) e u = go (is_taken net g.request.size n q hop) refl (λ f. walk (suc first) hops f (λ k i t. u k (inr i) t))
        where
          go : (b : Bool) → is_taken net g.request.size n q hop ≡ b → (list_any (is_taken net g.request.size n q) hops ≡ uses_slot net n q g → changed_by net g.request.size (λ place. one_use_less) (suc first) hops n q (use_of net book n q) ≡ use_of net (without_id g.id book) n q) → (if b then one_use_less (use_of net book n q) else changed_by net g.request.size (λ place. one_use_less) (suc first) hops n q (use_of net book n q)) ≡ use_of net (without_id g.id book) n q
          go true t later = less_use n q (u hop (inl refl) t)
          go false t later = later (ap (λ b. b || list_any (is_taken net g.request.size n q) hops) (sym t) ∙ e)

  -- a slot of the grant that it alone uses holds no record without it
  pub used_once : (n q : ℕ) → uses_slot net n q g ≡ true → (uses_of net book n q == 1) ≡ is_empty (records_of net (without_id g.id book) n q)
  used_once n q u =
      let e : uses_of net book n q ≡ uses_of net (without_id g.id book) n q + 1 = fewer_uses n q ∙ ap (λ b. uses_of net (without_id g.id book) n q + (if b then 1 else 0)) u in
      ap (λ k. k == 1) e ∙ one_less_zero (uses_of net (without_id g.id book) n q) ∙ used_zero net (without_id g.id book) n q

  -- and it is used
  pub some_use : (n q : ℕ) → uses_slot net n q g ≡ true → 0 < uses_of net book n q
  some_use n q u =
      let e : uses_of net book n q ≡ uses_of net (without_id g.id book) n q + 1 = fewer_uses n q ∙ ap (λ b. uses_of net (without_id g.id book) n q + (if b then 1 else 0)) u in
      omega arith

  -- A SLOT THAT IS CLEARED

  -- no other grant uses a slot that the grant owns
  lone : (n q : ℕ) → owns_slot net n q g ≡ true → list_any (uses_slot net n q) (without_id g.id book) ≡ false
  lone n q owned = none_any (uses_slot net n q) (without_id g.id book) (λ x m e. (let k = without_in g.id book x m in false≢true (sym (sound.alone g x live k.0 (λ s. k.1 (sym s)) n q owned) ∙ e)))

  -- so the first slot of its own hop is cleared
  clears_some : 1 ≤ length (clears_of net book g)
  clears_some =
      let place = g.placement.own in
      let own : Hop = placed.own in
      let u = goes.units own (hop_member g.placement.hops place own placed.is_own) in
      let slot : ℕ = first_slot u.0 own in
      let rights = hop_rights g.request.rights g.placement.own place in
      let gives = between_gives net g.request.size rights own u.0 slot u.1 (omega arith) (first_before u.0 g.request.size own u.2) in
      let put = slot_record u.0 rights own slot in
      let owned : owns_slot net own.unit slot g ≡ true = by_owns net g own.unit slot own placed.is_own (gives_taken net g.request.size rights own own.unit slot put gives) in
      let empty = unused_none net (without_id g.id book) own.unit slot (lone own.unit slot owned) in
      let given : GrantGives net g own.unit slot put = record { place = place; hop = own; is_hop = placed.is_own; gives = gives } in
      let m = in_empty (records_of net (without_id g.id book)) (joined_slots (grant_slots net g)) (put_at own.unit slot put) (gives_put net g own.unit slot put given) empty in
      let at = place_of (clears_of net book g) (put_at own.unit slot put) m in
      let l = slice_get_within (clears_of net book g) at.0 (put_at own.unit slot put) at.1 in
      omega arith
    where
      placed : IsPlacement net open_slots g.request g.placement
      placed = (sound.grants g live).placed

pub revoke_clears_some : RevokeClearsSome
revoke_clears_some net book g legal sound live = clears_some net legal book g sound live
