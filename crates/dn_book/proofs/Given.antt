-- The records that the hops of grants give to slots, and which slots grants use and own.
use Rattle.std.proofs.Common.{◌≡◌, ℕ, zero, suc, ◌+◌, ◌≤◌, ◌⊎◌, inl, inr, Bool, true, false, if◌then◌else◌, ◌&&◌, nat_eq, nat_le, List, [], ◌∷◌, slice_get, is_some, Option, Some, None, refl, sym, ap, ◌∙◌, subst, arith, eqb-true, eq-eqb, leb-true, le-leb}
use Rattle.std.specs.List.{list_any}
use Rattle.std.proofs.lemmas.Option.{same_Some}
use Rattle.dn_base.proofs.Members.{any_member, member_any, member_at}
use Rattle.dn_net.specs.declared.node.NodeDecl.{NodeDecl}
use Rattle.dn_net.specs.declared.node.Unit.{Unit as UnitPart}
use Rattle.dn_net.specs.Chain.{Member}
use Rattle.dn_net.specs.Decode.{unit_at}
use Rattle.dn_kind.specs.declared.rights.Rights.{Rights}
use Rattle.dn_kind.specs.declared.unit_kind.Record.{Record}
use Rattle.dn_kind.specs.Rights.{both_rights}
use Rattle.dn_tables.specs.declared.placement.Hop.{Hop}
use Rattle.dn_placement.specs.Records.{first_slot, hop_record, hop_record_by, hop_rights, hops_records, is_taken_by, last_slot, or_record, slot_record}
use Rattle.dn_book.specs.declared.grant.Grant.{Grant}
use Rattle.dn_book.specs.Book.{IsGiven, grant_records, is_taken, is_taken_by_own, owns_slot, records_of, uses_slot}

-- ONE HOP

-- what it takes for a hop to give a record to a slot
pub record HopGives (net : List NodeDecl) (size : ℕ) (r : Rights) (hop : Hop) (n q : ℕ) : Type 0 where
  pub unit : UnitPart
  pub is_unit : unit_at net hop.unit ≡ Some unit
  pub node : n ≡ hop.unit
  pub low : first_slot unit hop ≤ q
  pub high : q ≤ last_slot unit size hop
  pub is : hop_record net size r hop n q ≡ Some (slot_record unit r hop q)

-- a hop takes a slot, or gives it nothing whatever the rights
pub hop_cases : (net : List NodeDecl) (size : ℕ) (r : Rights) (hop : Hop) (n q : ℕ) → (HopGives net size r hop n q × (is_taken net size n q hop ≡ true)) ⊎ ((hop_record net size r hop n q ≡ None) × (is_taken net size n q hop ≡ false))
hop_cases net size r hop n q = go (unit_at net hop.unit) refl
  where
    go : (o : Option UnitPart) → unit_at net hop.unit ≡ o → (HopGives net size r hop n q × (is_taken net size n q hop ≡ true)) ⊎ ((hop_record net size r hop n q ≡ None) × (is_taken net size n q hop ≡ false))
    go None e = inr (ap (λ o. hop_record_by o size r hop n q) e, ap (λ o. is_some (hop_record_by o size both_rights hop n q)) e)
    go (Some u) e = tests (nat_eq n hop.unit) (nat_le (first_slot u hop) q) (nat_le q (last_slot u size hop)) refl refl refl
      where
        at : (r : Rights) → hop_record net size r hop n q ≡ (if nat_eq n hop.unit && is_taken_by u size hop q then Some (slot_record u r hop q) else None)
        at r = ap (λ o. hop_record_by o size r hop n q) e

        pick : (r : Rights) (a b c : Bool) → nat_eq n hop.unit ≡ a → nat_le (first_slot u hop) q ≡ b → nat_le q (last_slot u size hop) ≡ c → hop_record net size r hop n q ≡ (if a && (b && c) then Some (slot_record u r hop q) else None)
        pick r a b c ea eb ec = at r ∙ ap (λ x. if x && is_taken_by u size hop q then Some (slot_record u r hop q) else None) ea ∙ ap (λ x. if a && (x && nat_le q (last_slot u size hop)) then Some (slot_record u r hop q) else None) eb ∙ ap (λ x. if a && (b && x) then Some (slot_record u r hop q) else None) ec

        tests : (a b c : Bool) → nat_eq n hop.unit ≡ a → nat_le (first_slot u hop) q ≡ b → nat_le q (last_slot u size hop) ≡ c → (HopGives net size r hop n q × (is_taken net size n q hop ≡ true)) ⊎ ((hop_record net size r hop n q ≡ None) × (is_taken net size n q hop ≡ false))
        tests true true true ea eb ec = inl (
          record { unit = u; is_unit = e; node = eqb-true n hop.unit ea; low = leb-true (first_slot u hop) q eb; high = leb-true q (last_slot u size hop) ec; is = pick r true true true ea eb ec },
          ap is_some (pick both_rights true true true ea eb ec),
        )
        tests true true false ea eb ec = inr (pick r true true false ea eb ec, ap is_some (pick both_rights true true false ea eb ec))
        tests true false c ea eb ec = inr (pick r true false c ea eb ec, ap is_some (pick both_rights true false c ea eb ec))
        tests false b c ea eb ec = inr (pick r false b c ea eb ec, ap is_some (pick both_rights false b c ea eb ec))

-- a record that is given
pub hop_gives : (net : List NodeDecl) (size : ℕ) (r : Rights) (hop : Hop) (n q : ℕ) (t : Record) → hop_record net size r hop n q ≡ Some t → HopGives net size r hop n q
hop_gives net size r hop n q t e = elim (hop_cases net size r hop n q) [
  | inl h ↦ h.0
  | inr h ↦ (let f : None ≡ Some t = sym h.0 ∙ e in cc)
]

-- a slot that is taken is given a record
pub taken_gives : (net : List NodeDecl) (size : ℕ) (r : Rights) (hop : Hop) (n q : ℕ) → is_taken net size n q hop ≡ true → HopGives net size r hop n q
taken_gives net size r hop n q e = elim (hop_cases net size r hop n q) [
  | inl h ↦ h.0
  | inr h ↦ (let f : false ≡ true = sym h.1 ∙ e in cc)
]

pub gives_taken : (net : List NodeDecl) (size : ℕ) (r : Rights) (hop : Hop) (n q : ℕ) (t : Record) → hop_record net size r hop n q ≡ Some t → is_taken net size n q hop ≡ true
gives_taken net size r hop n q t e = elim (hop_cases net size r hop n q) [
  | inl h ↦ h.1
  | inr h ↦ (let f : None ≡ Some t = sym h.0 ∙ e in cc)
]

-- a slot between the first and the last is taken
pub between_gives : (net : List NodeDecl) (size : ℕ) (r : Rights) (hop : Hop) (u : UnitPart) (q : ℕ) → unit_at net hop.unit ≡ Some u → first_slot u hop ≤ q → q ≤ last_slot u size hop → hop_record net size r hop hop.unit q ≡ Some (slot_record u r hop q)
between_gives net size r hop u q e low high =
    ap (λ o. hop_record_by o size r hop hop.unit q) e
    ∙ ap (λ a. if a && is_taken_by u size hop q then Some (slot_record u r hop q) else None) (eq-eqb hop.unit hop.unit refl)
    ∙ ap (λ b. if b && nat_le q (last_slot u size hop) then Some (slot_record u r hop q) else None) (le-leb (first_slot u hop) q low)
    ∙ ap (λ b. if b then Some (slot_record u r hop q) else None) (le-leb q (last_slot u size hop) high)

-- MEMBERS AND PLACES

pub place_of : {X : Type 0} (xs : List X) (x : X) → Member x xs → (j : ℕ) × (slice_get xs j ≡ Some x)
place_of [] x m = absurd m
place_of (y ∷ xs) x (inl e) = (0, ap Some e)
place_of (y ∷ xs) x (inr m) = let r = place_of xs x m in (suc r.0, r.1)

-- THE RECORDS OF A BOOK ARE THOSE OF ITS HOPS

placed_in : (net : List NodeDecl) (size : ℕ) (r : Rights) (own first : ℕ) (hops : List Hop) (n q : ℕ) (t : Record) → hops_records net size r own first hops n q ≡ Some t → (j : ℕ) × (hop : Hop) × (slice_get hops j ≡ Some hop) × (hop_record net size (hop_rights r own (first + j)) hop n q ≡ Some t)
placed_in net size r own first [] n q t e = cc
placed_in net size r own first (hop ∷ hops) n q t e = go (placed_in net size r own (suc first) hops n q t) (hop_record net size (hop_rights r own first) hop n q) refl e
  where
    go : (hops_records net size r own (suc first) hops n q ≡ Some t → (j : ℕ) × (k : Hop) × (slice_get hops j ≡ Some k) × (hop_record net size (hop_rights r own (suc first + j)) k n q ≡ Some t)) → (o : Option Record) → hop_record net size (hop_rights r own first) hop n q ≡ o → or_record o (hops_records net size r own (suc first) hops n q) ≡ Some t → (j : ℕ) × (k : Hop) × (slice_get (hop ∷ hops) j ≡ Some k) × (hop_record net size (hop_rights r own (first + j)) k n q ≡ Some t)
    go later None is s =
        let i = later s in
        let e : suc first + i.0 ≡ first + suc i.0 = omega arith in
        (suc i.0, i.1, i.2, subst (λ m. hop_record net size (hop_rights r own m) i.1 n q ≡ Some t) e i.3)
    go later (Some v) is s =
        let e : first ≡ first + 0 = omega arith in
        (0, hop, refl, subst (λ m. hop_record net size (hop_rights r own m) hop n q ≡ Some t) e (is ∙ s))

placed_none : (net : List NodeDecl) (size : ℕ) (r : Rights) (own first : ℕ) (hops : List Hop) (n q : ℕ) (t : Record) (j : ℕ) (hop : Hop) → slice_get hops j ≡ Some hop → hop_record net size (hop_rights r own (first + j)) hop n q ≡ Some t → hops_records net size r own first hops n q ≡ None → ⊥
placed_none net size r own first [] n q t j hop at e f = cc
placed_none net size r own first (k ∷ hops) n q t zero hop at e f =
    let z : first + zero ≡ first = omega arith in
    let s : k ≡ hop = same_Some k hop at in
    let g : hop_record net size (hop_rights r own first) k n q ≡ Some t = ap (λ (w : Hop). hop_record net size (hop_rights r own first) w n q) s ∙ ap (λ m. hop_record net size (hop_rights r own m) hop n q) (sym z) ∙ e in
    let c : Some t ≡ None = sym (ap (λ o. or_record o (hops_records net size r own (suc first) hops n q)) g) ∙ f in
    cc
placed_none net size r own first (k ∷ hops) n q t (suc j) hop at e f =
    let z : first + suc j ≡ suc first + j = omega arith in
    go (placed_none net size r own (suc first) hops n q t j hop at (subst (λ m. hop_record net size (hop_rights r own m) hop n q ≡ Some t) z e)) (hop_record net size (hop_rights r own first) k n q) f
  where
    go : (hops_records net size r own (suc first) hops n q ≡ None → ⊥) → (o : Option Record) → or_record o (hops_records net size r own (suc first) hops n q) ≡ None → ⊥
    go later None s = later s
    go later (Some v) s = cc

-- a hop of a grant gives the record
pub record GrantGives (net : List NodeDecl) (g : Grant) (n q : ℕ) (t : Record) : Type 0 where
  pub place : ℕ
  pub hop : Hop
  pub is_hop : slice_get g.placement.hops place ≡ Some hop
  pub gives : hop_record net g.request.size (hop_rights g.request.rights g.placement.own place) hop n q ≡ Some t

pub grant_gives : (net : List NodeDecl) (g : Grant) (n q : ℕ) (t : Record) → grant_records net g n q ≡ Some t → GrantGives net g n q t
grant_gives net g n q t e =
    let i = placed_in net g.request.size g.request.rights g.placement.own 0 g.placement.hops n q t e in
    let z : 0 + i.0 ≡ i.0 = omega arith in
    record { place = i.0; hop = i.1; is_hop = i.2; gives = subst (λ m. hop_record net g.request.size (hop_rights g.request.rights g.placement.own m) i.1 n q ≡ Some t) z i.3 }

pub given_by : (net : List NodeDecl) (book : List Grant) (g : Grant) (n q : ℕ) (t : Record) → Member g book → GrantGives net g n q t → IsGiven net book n q t
given_by net book g n q t m h = record { grant = g; is_grant = m; place = h.place; hop = h.hop; is_hop = h.is_hop; gives = h.gives }

pub held_in : (net : List NodeDecl) (book : List Grant) (n q : ℕ) (t : Record) → records_of net book n q ≡ Some t → IsGiven net book n q t
held_in net [] n q t e = cc
held_in net (g ∷ gs) n q t e = go (held_in net gs n q t) (grant_records net g n q) refl e
  where
    go : (records_of net gs n q ≡ Some t → IsGiven net gs n q t) → (o : Option Record) → grant_records net g n q ≡ o → or_record o (records_of net gs n q) ≡ Some t → IsGiven net (g ∷ gs) n q t
    go later None is s = let i = later s in record { grant = i.grant; is_grant = inr i.is_grant; place = i.place; hop = i.hop; is_hop = i.is_hop; gives = i.gives }
    go later (Some v) is s = given_by net (g ∷ gs) g n q t (inl refl) (grant_gives net g n q t (is ∙ s))

grant_none : (net : List NodeDecl) (g : Grant) (n q : ℕ) (t : Record) → GrantGives net g n q t → grant_records net g n q ≡ None → ⊥
grant_none net g n q t h f =
    let z : h.place ≡ 0 + h.place = omega arith in
    placed_none net g.request.size g.request.rights g.placement.own 0 g.placement.hops n q t h.place h.hop h.is_hop (subst (λ m. hop_record net g.request.size (hop_rights g.request.rights g.placement.own m) h.hop n q ≡ Some t) z h.gives) f

pub held_none : (net : List NodeDecl) (book : List Grant) (n q : ℕ) (t : Record) → records_of net book n q ≡ None → IsGiven net book n q t → ⊥
held_none net book n q t e h = all book h.is_grant e
  where
    here : GrantGives net h.grant n q t
    here = record { place = h.place; hop = h.hop; is_hop = h.is_hop; gives = h.gives }

    all : (gs : List Grant) → Member h.grant gs → records_of net gs n q ≡ None → ⊥
    all [] m f = m
    all (k ∷ gs) m f = go (all gs) m (grant_records net k n q) refl f
      where
        go : (Member h.grant gs → records_of net gs n q ≡ None → ⊥) → (k ≡ h.grant) ⊎ Member h.grant gs → (o : Option Record) → grant_records net k n q ≡ o → or_record o (records_of net gs n q) ≡ None → ⊥
        go later m (Some v) is s = cc
        go later (inr m) None is s = later m s
        go later (inl m) None is s = grant_none net h.grant n q t here (subst (λ (w : Grant). grant_records net w n q ≡ None) m is)

-- grants agree on the record of each slot
abbrev pub Agree : List NodeDecl → List Grant → Type 0
Agree net book = (n q : ℕ) (r s : Record) → IsGiven net book n q r → IsGiven net book n q s → r ≡ s

pub in_held : (net : List NodeDecl) (book : List Grant) → Agree net book → (n q : ℕ) (t : Record) → IsGiven net book n q t → records_of net book n q ≡ Some t
in_held net book agree n q t h = go (records_of net book n q) refl
  where
    go : (o : Option Record) → records_of net book n q ≡ o → o ≡ Some t
    go None e = absurd (held_none net book n q t e h)
    go (Some v) e = ap Some (agree n q v t (held_in net book n q v e) h)

-- USED AND OWNED SLOTS

pub uses_given : (net : List NodeDecl) (book : List Grant) (n q : ℕ) (t : Record) (h : IsGiven net book n q t) → uses_slot net n q h.grant ≡ true
uses_given net book n q t h =
    member_any (is_taken net h.grant.request.size n q) h.grant.placement.hops h.hop (member_at h.grant.placement.hops h.place h.hop h.is_hop) (gives_taken net h.grant.request.size (hop_rights h.grant.request.rights h.grant.placement.own h.place) h.hop n q t h.gives)

-- a slot that is used, with the hop that takes it
pub record Uses (net : List NodeDecl) (g : Grant) (n q : ℕ) : Type 0 where
  pub place : ℕ
  pub hop : Hop
  pub is_hop : slice_get g.placement.hops place ≡ Some hop
  pub taken : is_taken net g.request.size n q hop ≡ true

pub uses_by : (net : List NodeDecl) (g : Grant) (n q : ℕ) → uses_slot net n q g ≡ true → Uses net g n q
uses_by net g n q e =
    let a = any_member (is_taken net g.request.size n q) g.placement.hops e in
    let p = place_of g.placement.hops a.0 a.1 in
    record { place = p.0; hop = a.0; is_hop = p.1; taken = a.2 }

pub by_uses : (net : List NodeDecl) (g : Grant) (n q place : ℕ) (hop : Hop) → slice_get g.placement.hops place ≡ Some hop → is_taken net g.request.size n q hop ≡ true → uses_slot net n q g ≡ true
by_uses net g n q place hop at e = member_any (is_taken net g.request.size n q) g.placement.hops hop (member_at g.placement.hops place hop at) e

-- what it gives
pub uses_gives : (net : List NodeDecl) (g : Grant) (n q : ℕ) (h : Uses net g n q) → (t : Record) × GrantGives net g n q t
uses_gives net g n q h =
    let k = taken_gives net g.request.size (hop_rights g.request.rights g.placement.own h.place) h.hop n q h.taken in
    (_, record { place = h.place; hop = h.hop; is_hop = h.is_hop; gives = k.is })

-- a slot that is owned
pub record Owns (net : List NodeDecl) (g : Grant) (n q : ℕ) : Type 0 where
  pub hop : Hop
  pub is_hop : slice_get g.placement.hops g.placement.own ≡ Some hop
  pub taken : is_taken net g.request.size n q hop ≡ true

pub owns_by : (net : List NodeDecl) (g : Grant) (n q : ℕ) → owns_slot net n q g ≡ true → Owns net g n q
owns_by net g n q e = go (slice_get g.placement.hops g.placement.own) refl e
  where
    go : (o : Option Hop) → slice_get g.placement.hops g.placement.own ≡ o → is_taken_by_own net g.request.size n q o ≡ true → Owns net g n q
    go None at f = cc
    go (Some hop) at f = record { hop = hop; is_hop = at; taken = f }

pub by_owns : (net : List NodeDecl) (g : Grant) (n q : ℕ) (hop : Hop) → slice_get g.placement.hops g.placement.own ≡ Some hop → is_taken net g.request.size n q hop ≡ true → owns_slot net n q g ≡ true
by_owns net g n q hop at e = ap (is_taken_by_own net g.request.size n q) at ∙ e

pub owned_used : (net : List NodeDecl) (g : Grant) (n q : ℕ) → owns_slot net n q g ≡ true → uses_slot net n q g ≡ true
owned_used net g n q e = let h = owns_by net g n q e in by_uses net g n q g.placement.own h.hop h.is_hop h.taken

-- what is used by no grant has no record, and the other way round
pub unused_none : (net : List NodeDecl) (book : List Grant) (n q : ℕ) → list_any (uses_slot net n q) book ≡ false → records_of net book n q ≡ None
unused_none net book n q e = go (records_of net book n q) refl
  where
    go : (o : Option Record) → records_of net book n q ≡ o → o ≡ None
    go None f = refl
    go (Some t) f =
        let h = held_in net book n q t f in
        let u : list_any (uses_slot net n q) book ≡ true = member_any (uses_slot net n q) book h.grant h.is_grant (uses_given net book n q t h) in
        let c : true ≡ false = sym u ∙ e in
        cc

pub none_unused : (net : List NodeDecl) (book : List Grant) (n q : ℕ) → records_of net book n q ≡ None → list_any (uses_slot net n q) book ≡ false
none_unused net book n q e = go (list_any (uses_slot net n q) book) refl
  where
    go : (b : Bool) → list_any (uses_slot net n q) book ≡ b → b ≡ false
    go false f = refl
    go true f =
        let a = any_member (uses_slot net n q) book f in
        let u = uses_gives net a.0 n q (uses_by net a.0 n q a.2) in
        absurd (held_none net book n q u.0 e (given_by net book a.0 n q u.0 a.1 u.1))
