-- A sound book stays so as a grant comes that is a placement, and as grants go.
use Rattle.std.proofs.Common.{◌≡◌, ◌≢◌, ℕ, zero, suc, ◌+◌, ◌^◌, ◌<◌, ◌≤◌, ◌⊎◌, inl, inr, Bool, true, false, if◌then◌else◌, ◌==◌, not, nat_eq, List, [], ◌∷◌, ◌++◌, length, drop, slice_get, get_or, Some, IsSome, IsTrue, refl, sym, ap, ◌∙◌, subst, arith, eqb-true, eq-eqb}
use Rattle.std.specs.List.{AllPairs, list_any}
use Rattle.std.proofs.lemmas.List.Kept.{AllPairs-filter}
use Rattle.std.proofs.lemmas.List.Quantifiers.{all_pairs_push}
use Rattle.std.proofs.lemmas.Option.{same_Some, slice_get-get_or}
use Rattle.dn_base.proofs.Lists.{length-last}
use Rattle.dn_base.proofs.Members.{member_cases, member_at, member_none}
use Rattle.dn_base.proofs.Booleans.{cases_Bool, not-true}
use Rattle.dn_base.proofs.Orders.{cases_eq}
use Rattle.dn_net.specs.declared.node.NodeDecl.{NodeDecl}
use Rattle.dn_net.specs.declared.node.Unit.{Unit as UnitPart}
use Rattle.dn_net.specs.Chain.{Member}
use Rattle.dn_net.specs.Decode.{unit_at}
use Rattle.dn_net.specs.Legal.{IsLegalNet}
use Rattle.dn_net.specs.UnitRules.{LeadsTo}
use Rattle.dn_net.proofs.Members.{member_filter}
use Rattle.dn_net.proofs.Plain.{plain_at}
use Rattle.dn_kind.specs.declared.unit_kind.Record.{Record}
use Rattle.dn_kind.specs.Rights.{both_rights}
use Rattle.dn_tables.specs.declared.placement.Hop.{Hop}
use Rattle.dn_tables.specs.Placement.{Place}
use Rattle.dn_placement.specs.declared.request.Request.{Request}
use Rattle.dn_placement.specs.Placement.{IsFreeHop, IsPlacement, IsUsable, Joins, Leads}
use Rattle.dn_placement.specs.Placement.IsUsable.{is_free, is_shared}
use Rattle.dn_placement.specs.Records.{first_slot, hop_record, hop_rights, last_slot, slot_record}
use Rattle.dn_placement.specs.Slots.{Slots}
use Rattle.dn_book.specs.declared.grant.Grant.{Grant}
use Rattle.dn_book.specs.Book.{AreOwnAlone, IsGiven, IsGrant, IsSound, has_id, open_slots, owns_slot, records_of, slots_of, uses_slot, without_id}
use Rattle.dn_book.specs.Laws.{IsGrantFor}
use Rattle.dn_book.specs.Sets.{AreFit, TakesSlots}
use Rattle.dn_book.proofs.Given.{GrantGives, HopGives, Uses, by_owns, given_by, gives_taken, hop_gives, in_held, owned_used, owns_by, place_of, taken_gives, uses_by, uses_given}
use Rattle.dn_book.proofs.InOrder.{units_apart}

-- WHAT A PLACEMENT SAYS OF ITS HOPS

-- what is known of one hop of a placement
pub record PlacedHop (net : List NodeDecl) (slots : Slots) (size : ℕ) (hop : Hop) : Type 0 where
  pub unit : UnitPart
  pub is_unit : unit_at net hop.unit ≡ Some unit
  pub fit : TakesSlots unit size hop
  pub usable : (q : ℕ) → first_slot unit hop ≤ q → q ≤ last_slot unit size hop → IsUsable slots unit hop q

leads_at : (net : List NodeDecl) (slots : Slots) (rq : Request) (hops : List Hop) (j : ℕ) (hop : Hop) → Leads net slots rq hops → slice_get hops j ≡ Some hop → Joins net slots rq hop (drop (suc j) hops)
leads_at net slots rq [] j hop l e = cc
leads_at net slots rq (h ∷ hops) zero hop l e = subst (λ (w : Hop). Joins net slots rq w hops) (same_Some h hop e) l.0
leads_at net slots rq (h ∷ hops) (suc j) hop l e = leads_at net slots rq hops j hop l.1 e

pub placed_hop : (net : List NodeDecl) → IsLegalNet net → (slots : Slots) (rq : Request) (p : Place) → IsPlacement net slots rq p → (j : ℕ) (hop : Hop) → slice_get p.hops j ≡ Some hop → PlacedHop net slots rq.size hop
placed_hop net legal slots rq p placed j hop at =
    let l = leads_at net slots rq p.hops j hop placed.leads at in
    record {
      unit = l.unit;
      is_unit = l.is_unit;
      fit = record {
        some = placed.some;
        plain = plain_at net hop.unit l.unit legal.shapes l.is_unit;
        fits = l.fits;
      };
      usable = l.usable;
    }

-- one hop leads to the next
next_leads : (net : List NodeDecl) (slots : Slots) (rq : Request) (a b : Hop) (hops : List Hop) → 1 ≤ rq.size → Joins net slots rq a (b ∷ hops) → LeadsTo net a.unit b.unit
next_leads net slots rq a b hops some l =
    let m = l.meets 0 (omega arith) in
    let below : a.y + 0 < 2 ^ l.unit.reach = let r = l.fits.reached in omega arith in
    record {
      part = l.unit;
      port = l.fits.node;
      addr = a.y + 0;
      stop = record { node = b.unit; addr = b.x + 0 };
      is_part = l.is_unit;
      has_port = member_at l.unit.ports a.port l.fits.node l.fits.is_port;
      below = below;
      reaches = (m.1.0, m.1.2);
      is_stop = m.0;
      is_end = refl;
    }

unit_some : (net : List NodeDecl) (n : ℕ) (u : UnitPart) → unit_at net n ≡ Some u → IsSome (unit_at net n)
unit_some net n u e = subst IsSome (sym e) refl

-- a unit leads not to itself, nor to one that leads to it
not_itself : (net : List NodeDecl) → IsLegalNet net → (a : ℕ) (u : UnitPart) → unit_at net a ≡ Some u → LeadsTo net a a → ⊥
not_itself net legal a u e l =
    let i = unit_some net a u e in
    let s : 4 ≤ 3 = legal.units.rows.short (a ∷ a ∷ a ∷ a ∷ []) (i, l, (i, l, (i, l, (i, tt, tt)))) in
    absurd (omega arith)

not_back : (net : List NodeDecl) → IsLegalNet net → (a b : ℕ) (u v : UnitPart) → unit_at net a ≡ Some u → unit_at net b ≡ Some v → LeadsTo net a b → LeadsTo net b a → ⊥
not_back net legal a b u v ea eb l m =
    let i = unit_some net a u ea in
    let j = unit_some net b v eb in
    let s : 4 ≤ 3 = legal.units.rows.short (a ∷ b ∷ a ∷ b ∷ []) (i, l, (j, m, (i, l, (j, tt, tt)))) in
    absurd (omega arith)

-- the hops of a placement are in different units
pub hops_apart : (net : List NodeDecl) → IsLegalNet net → (slots : Slots) (rq : Request) (hops : List Hop) → 1 ≤ rq.size → length hops ≤ 3 → Leads net slots rq hops → AllPairs (λ (a b : Hop). a.unit ≢ b.unit) hops
hops_apart net legal slots rq [] some few l i j d lt le = absurd (omega arith)
hops_apart net legal slots rq (a ∷ []) some few l i j d lt le = absurd (omega arith)
hops_apart net legal slots rq (a ∷ (b ∷ [])) some few l i j d lt le = two i j lt le
  where
    ab : LeadsTo net a.unit b.unit
    ab = next_leads net slots rq a b [] some l.0

    ne : a.unit ≢ b.unit
    ne e = not_itself net legal a.unit l.0.unit l.0.is_unit (subst (LeadsTo net a.unit) (sym e) ab)

    two : (i j : ℕ) → i < j → j < 2 → (get_or (a ∷ (b ∷ [])) i d).unit ≢ (get_or (a ∷ (b ∷ [])) j d).unit
    two zero zero lt le = absurd (omega arith)
    two zero (suc zero) lt le = ne
    two zero (suc (suc j)) lt le = absurd (omega arith)
    two (suc i) j lt le = absurd (omega arith)
hops_apart net legal slots rq (a ∷ (b ∷ (c ∷ []))) some few l i j d lt le = three i j lt le
  where
    ab : LeadsTo net a.unit b.unit
    ab = next_leads net slots rq a b (c ∷ []) some l.0

    bc : LeadsTo net b.unit c.unit
    bc = next_leads net slots rq b c [] some l.1.0

    ne : a.unit ≢ b.unit
    ne e = not_itself net legal a.unit l.0.unit l.0.is_unit (subst (LeadsTo net a.unit) (sym e) ab)

    nf : b.unit ≢ c.unit
    nf e = not_itself net legal b.unit l.1.0.unit l.1.0.is_unit (subst (LeadsTo net b.unit) (sym e) bc)

    ng : a.unit ≢ c.unit
    ng e = not_back net legal a.unit b.unit l.0.unit l.1.0.unit l.0.is_unit l.1.0.is_unit ab (subst (LeadsTo net b.unit) (sym e) bc)

    three : (i j : ℕ) → i < j → j < 3 → (get_or (a ∷ (b ∷ (c ∷ []))) i d).unit ≢ (get_or (a ∷ (b ∷ (c ∷ []))) j d).unit
    three zero zero lt le = absurd (omega arith)
    three zero (suc zero) lt le = ne
    three zero (suc (suc zero)) lt le = ng
    three zero (suc (suc (suc j))) lt le = absurd (omega arith)
    three (suc zero) zero lt le = absurd (omega arith)
    three (suc zero) (suc zero) lt le = absurd (omega arith)
    three (suc zero) (suc (suc zero)) lt le = nf
    three (suc zero) (suc (suc (suc j))) lt le = absurd (omega arith)
    three (suc (suc i)) j lt le = absurd (omega arith)
hops_apart net legal slots rq (a ∷ (b ∷ (c ∷ (e ∷ hops)))) some few l i j d lt le = absurd (omega arith)

pub placed_apart : (net : List NodeDecl) → IsLegalNet net → (slots : Slots) (rq : Request) (p : Place) → IsPlacement net slots rq p → AllPairs (λ (a b : Hop). a.unit ≢ b.unit) p.hops
placed_apart net legal slots rq p placed = hops_apart net legal slots rq p.hops placed.some placed.most placed.leads

-- so they fit their units
pub placed_fit : (net : List NodeDecl) → IsLegalNet net → (slots : Slots) (rq : Request) (p : Place) → IsPlacement net slots rq p → AreFit net rq.size p.hops
placed_fit net legal slots rq p placed = record {
  units = λ hop m. (let at = place_of p.hops hop m in let h = placed_hop net legal slots rq p placed at.0 hop at.1 in (h.unit, h.is_unit, h.fit));
  apart = placed_apart net legal slots rq p placed;
}

-- a placement in some slots is one where no slot holds a record
opened : (net : List NodeDecl) (slots : Slots) (rq : Request) (hops : List Hop) → Leads net slots rq hops → Leads net open_slots rq hops
opened net slots rq [] l = tt
opened net slots rq (hop ∷ hops) l = (
  record {
    unit = l.0.unit;
    is_unit = l.0.is_unit;
    fits = l.0.fits;
    usable = λ q a b. is_free refl;
    meets = l.0.meets;
  },
  opened net slots rq hops l.1,
)

pub placed_open : (net : List NodeDecl) (slots : Slots) (rq : Request) (p : Place) → IsPlacement net slots rq p → IsPlacement net open_slots rq p
placed_open net slots rq p placed = record {
  some = placed.some;
  fits = placed.fits;
  least = placed.least;
  most = placed.most;
  meets = placed.meets;
  leads = opened net slots rq p.hops placed.leads;
  own = placed.own;
  is_own = placed.is_own;
  free = λ u e q a b. refl;
}

-- ONE MORE GRANT

-- what a grant does to the slots of a book that it comes to
pub record Comes (net : List NodeDecl) (book : List Grant) (g : Grant) : Type 0 where
  pub share : (n q : ℕ) (r s : Record) → GrantGives net g n q r → IsGiven net book n q s → r ≡ s
  pub free : (n q : ℕ) (k : Grant) → Member k book → owns_slot net n q g ≡ true → uses_slot net n q k ≡ false
  pub unowned : (n q : ℕ) (k : Grant) → Member k book → owns_slot net n q k ≡ true → uses_slot net n q g ≡ false

module _ (net : List NodeDecl) (legal : IsLegalNet net) (book : List Grant) (sound : IsSound net book) (g : Grant) (placed : IsPlacement net (slots_of net book) g.request g.placement) where
  -- the own hop's slots are used by none
  own_free : (n q : ℕ) (k : Grant) → Member k book → owns_slot net n q g ≡ true → uses_slot net n q k ≡ false
  own_free n q k m e =
      let o = owns_by net g n q e in
      let same : placed.own ≡ o.hop = same_Some placed.own o.hop (sym placed.is_own ∙ o.is_hop) in
      let h = taken_gives net g.request.size both_rights o.hop n q o.taken in
      let f : IsFreeHop net (slots_of net book) g.request o.hop = subst (IsFreeHop net (slots_of net book) g.request) same placed.free in
      let t : IsTrue (not (list_any (uses_slot net o.hop.unit q) book)) = f h.unit h.is_unit q h.low h.high in
      member_none (uses_slot net n q) book k (subst (λ m. list_any (uses_slot net m q) book ≡ false) (sym h.node) (not-true (list_any (uses_slot net o.hop.unit q) book) t)) m

  -- each slot of a hop is free, or holds the record that it gets with both rights and is owned by none
  usable_at : (n q : ℕ) (h : Uses net g n q) → (u : UnitPart) × (unit_at net h.hop.unit ≡ Some u) × (n ≡ h.hop.unit) × IsUsable (slots_of net book) u h.hop q
  usable_at n q h =
      let k = placed_hop net legal (slots_of net book) g.request g.placement placed h.place h.hop h.is_hop in
      let t = taken_gives net g.request.size both_rights h.hop n q h.taken in
      let same : t.unit ≡ k.unit = same_Some t.unit k.unit (sym t.is_unit ∙ k.is_unit) in
      (k.unit, k.is_unit, t.node, k.usable q (subst (λ (w : UnitPart). first_slot w h.hop ≤ q) same t.low) (subst (λ (w : UnitPart). q ≤ last_slot w g.request.size h.hop) same t.high))

  no_owner : (n q : ℕ) (k : Grant) → Member k book → owns_slot net n q k ≡ true → uses_slot net n q g ≡ false
  no_owner n q k m e = elim (cases_Bool (uses_slot net n q g)) [ inr h ↦ h | inl h ↦ absurd (go (uses_by net g n q h) (usable_at n q (uses_by net g n q h))) ]
    where
      go : (h : Uses net g n q) → (u : UnitPart) × (unit_at net h.hop.unit ≡ Some u) × (n ≡ h.hop.unit) × IsUsable (slots_of net book) u h.hop q → ⊥
      go h w = by w.3
        where
          by : IsUsable (slots_of net book) w.0 h.hop q → ⊥
          by (is_free f) =
              let none : list_any (uses_slot net n q) book ≡ false = subst (λ m. list_any (uses_slot net m q) book ≡ false) (sym w.2) (not-true (list_any (uses_slot net h.hop.unit q) book) f) in
              let c : true ≡ false = sym (owned_used net k n q e) ∙ member_none (uses_slot net n q) book k none m in
              cc
          by (is_shared s f) =
              let none : list_any (owns_slot net n q) book ≡ false = subst (λ m. list_any (owns_slot net m q) book ≡ false) (sym w.2) (not-true (list_any (owns_slot net h.hop.unit q) book) f) in
              let c : true ≡ false = sym e ∙ member_none (owns_slot net n q) book k none m in
              cc

  shared : (n q : ℕ) (r s : Record) → GrantGives net g n q r → IsGiven net book n q s → r ≡ s
  shared n q r s a b = by (usable_at n q use').3
    where
      use' : Uses net g n q
      use' = record { place = a.place; hop = a.hop; is_hop = a.is_hop; taken = gives_taken net g.request.size (hop_rights g.request.rights g.placement.own a.place) a.hop n q r a.gives }

      unit : UnitPart
      unit = (usable_at n q use').0

      node : n ≡ a.hop.unit
      node = (usable_at n q use').2

      used : uses_slot net n q b.grant ≡ true
      used = uses_given net book n q s b

      -- the hop is not the own one
      not_own : a.place ≡ g.placement.own → ⊥
      not_own e =
          let at : slice_get g.placement.hops g.placement.own ≡ Some a.hop = subst (λ m. slice_get g.placement.hops m ≡ Some a.hop) e a.is_hop in
          let c : true ≡ false = sym used ∙ own_free n q b.grant b.is_grant (by_owns net g n q a.hop at use'.taken) in
          cc

      rights : hop_rights g.request.rights g.placement.own a.place ≡ both_rights
      rights = other (nat_eq a.place g.placement.own) refl
        where
          other : (t : Bool) → nat_eq a.place g.placement.own ≡ t → (if t then g.request.rights else both_rights) ≡ both_rights
          other true e = absurd (not_own (eqb-true a.place g.placement.own e))
          other false e = refl

      by : IsUsable (slots_of net book) unit a.hop q → r ≡ s
      by (is_free f) =
          let none : list_any (uses_slot net n q) book ≡ false = subst (λ m. list_any (uses_slot net m q) book ≡ false) (sym node) (not-true (list_any (uses_slot net a.hop.unit q) book) f) in
          let c : true ≡ false = sym used ∙ member_none (uses_slot net n q) book b.grant none b.is_grant in
          cc
      by (is_shared h f) =
          let k = hop_gives net g.request.size (hop_rights g.request.rights g.placement.own a.place) a.hop n q r a.gives in
          let same : k.unit ≡ unit = same_Some k.unit unit (sym k.is_unit ∙ (usable_at n q use').1) in
          let mine : r ≡ slot_record unit both_rights a.hop q = same_Some r _ (sym a.gives ∙ k.is) ∙ ap (λ (w : UnitPart). slot_record w (hop_rights g.request.rights g.placement.own a.place) a.hop q) same ∙ ap (λ w. slot_record unit w a.hop q) rights in
          let there : records_of net book n q ≡ Some (slot_record unit both_rights a.hop q) = ap (λ m. records_of net book m q) node ∙ h in
          mine ∙ same_Some _ s (sym there ∙ in_held net book sound.agree n q s b)

  pub comes : Comes net book g
  comes = record { share = shared; free = own_free; unowned = no_owner }

-- two records that a grant gives to one slot are one
pub gives_one : (net : List NodeDecl) (g : Grant) → AllPairs (λ (a b : Hop). a.unit ≢ b.unit) g.placement.hops → (n q : ℕ) (r s : Record) → GrantGives net g n q r → GrantGives net g n q s → r ≡ s
gives_one net g apart n q r s a b = elim (same a.place b.place) [
  | inl e ↦ same_Some r s (sym a.gives ∙ ap (λ m. hop_record net g.request.size (hop_rights g.request.rights g.placement.own m) a.hop n q) e ∙ ap (λ (h : Hop). hop_record net g.request.size (hop_rights g.request.rights g.placement.own b.place) h n q) (hop e) ∙ b.gives)
  | inr ne ↦ absurd (units_apart g.placement.hops a.place b.place a.hop b.hop apart a.is_hop b.is_hop ne (sym u.node ∙ v.node))
]
  where
    same : (i j : ℕ) → (i ≡ j) ⊎ (i ≡ j → ⊥)
    same = cases_eq

    u : HopGives net g.request.size (hop_rights g.request.rights g.placement.own a.place) a.hop n q
    u = hop_gives net g.request.size (hop_rights g.request.rights g.placement.own a.place) a.hop n q r a.gives

    v : HopGives net g.request.size (hop_rights g.request.rights g.placement.own b.place) b.hop n q
    v = hop_gives net g.request.size (hop_rights g.request.rights g.placement.own b.place) b.hop n q s b.gives

    hop : a.place ≡ b.place → a.hop ≡ b.hop
    hop e = same_Some a.hop b.hop (sym a.is_hop ∙ ap (slice_get g.placement.hops) e ∙ b.is_hop)

-- what is given by a grant that stands there
pub given_gives : (net : List NodeDecl) (book : List Grant) (n q : ℕ) (r : Record) (h : IsGiven net book n q r) → GrantGives net h.grant n q r
given_gives net book n q r h = record { place = h.place; hop = h.hop; is_hop = h.is_hop; gives = h.gives }

-- a live grant, or the one that comes
pub last_cases : (book : List Grant) (g k : Grant) → Member k (book ++ g ∷ []) → Member k book ⊎ (g ≡ k)
last_cases book g k m = elim (member_cases book (g ∷ []) k m) [
  | inl h ↦ inl h
  | inr h ↦ elim h [ inl e ↦ inr e | inr f ↦ absurd f ]
]

-- a new id differs from the others
new_id : (id : ℕ) (book : List Grant) (k : Grant) → has_id id book ≡ false → Member k book → k.id ≢ id
new_id id book k e m f =
    let c : true ≡ false = sym (eq-eqb k.id id f) ∙ member_none (λ (h : Grant). h.id == id) book k e m in
    cc

-- a sound book with one more grant is sound
pub granted_sound : (net : List NodeDecl) → IsLegalNet net → (book : List Grant) (g : Grant) → IsSound net book → IsGrantFor net book g → IsSound net (book ++ g ∷ [])
granted_sound net legal book g sound f = record { few = few; ids = ids; grants = grants; agree = agree; alone = alone }
  where
    c : Comes net book g
    c = comes net legal book sound g f.placed

    few : length (book ++ g ∷ []) ≤ 4096
    few = let n = length-last book g in let l = f.few in omega arith

    ids : AllPairs (λ (g k : Grant). g.id ≢ k.id) (book ++ g ∷ [])
    ids = all_pairs_push (λ (a b : Grant). a.id ≢ b.id) book g sound.ids (λ i d l. new_id g.id book (get_or book i d) f.new (member_at book i (get_or book i d) (slice_get-get_or book i d l)))

    grants : (k : Grant) → Member k (book ++ g ∷ []) → IsGrant net k
    grants k m = elim (last_cases book g k m) [
      | inl h ↦ sound.grants k h
      | inr e ↦ subst (IsGrant net) e (record { agent = f.agent; rights = f.rights; placed = placed_open net (slots_of net book) g.request g.placement f.placed })
    ]

    agree : (n q : ℕ) (r s : Record) → IsGiven net (book ++ g ∷ []) n q r → IsGiven net (book ++ g ∷ []) n q s → r ≡ s
    agree n q r s a b = by (last_cases book g a.grant a.is_grant) (last_cases book g b.grant b.is_grant)
      where
        left : Member a.grant book → IsGiven net book n q r
        left m = given_by net book a.grant n q r m (given_gives net (book ++ g ∷ []) n q r a)

        right : Member b.grant book → IsGiven net book n q s
        right m = given_by net book b.grant n q s m (given_gives net (book ++ g ∷ []) n q s b)

        mine : g ≡ a.grant → GrantGives net g n q r
        mine e = subst (λ k. GrantGives net k n q r) (sym e) (given_gives net (book ++ g ∷ []) n q r a)

        yours : g ≡ b.grant → GrantGives net g n q s
        yours e = subst (λ k. GrantGives net k n q s) (sym e) (given_gives net (book ++ g ∷ []) n q s b)

        by : Member a.grant book ⊎ (g ≡ a.grant) → Member b.grant book ⊎ (g ≡ b.grant) → r ≡ s
        by (inl m) (inl k) = sound.agree n q r s (left m) (right k)
        by (inr m) (inl k) = c.share n q r s (mine m) (right k)
        by (inl m) (inr k) = sym (c.share n q s r (yours k) (left m))
        by (inr m) (inr k) = gives_one net g (placed_apart net legal (slots_of net book) g.request g.placement f.placed) n q r s (mine m) (yours k)

    alone : AreOwnAlone net (book ++ g ∷ [])
    alone a b ma mb ne n q e = by (last_cases book g a ma) (last_cases book g b mb)
      where
        by : Member a book ⊎ (g ≡ a) → Member b book ⊎ (g ≡ b) → uses_slot net n q b ≡ false
        by (inl m) (inl k) = sound.alone a b m k ne n q e
        by (inr m) (inl k) = c.free n q b k (subst (λ w. owns_slot net n q w ≡ true) (sym m) e)
        by (inl m) (inr k) = subst (λ w. uses_slot net n q w ≡ false) k (c.unowned n q a m e)
        by (inr m) (inr k) = absurd (ne (ap (λ (w : Grant). w.id) (sym m ∙ k)))

-- GRANTS THAT GO

-- who stays without an id
pub without_in : (id : ℕ) (book : List Grant) (k : Grant) → Member k (without_id id book) → Member k book × (k.id ≢ id)
without_in id book k m =
    let f = member_filter (λ (g : Grant). not (g.id == id)) book k m in
    (f.0, λ e. (let t : not (k.id == id) ≡ false = ap not (eq-eqb k.id id e) in let c : true ≡ false = sym f.1 ∙ t in cc))

-- and who goes
pub in_without : (id : ℕ) (book : List Grant) (k : Grant) → Member k book → k.id ≢ id → Member k (without_id id book)
in_without id [] k m ne = absurd m
in_without id (g ∷ gs) k m ne = go (in_without id gs k) m (g.id == id) refl
  where
    go : (Member k gs → k.id ≢ id → Member k (without_id id gs)) → (g ≡ k) ⊎ Member k gs → (b : Bool) → (g.id == id) ≡ b → Member k (if not b then g ∷ without_id id gs else without_id id gs)
    go later (inl e) true f = absurd (ne (ap (λ (w : Grant). w.id) (sym e) ∙ eqb-true g.id id f))
    go later (inl e) false f = inl e
    go later (inr m) true f = later m ne
    go later (inr m) false f = inr (later m ne)

given_more : (net : List NodeDecl) (id : ℕ) (book : List Grant) (n q : ℕ) (r : Record) → IsGiven net (without_id id book) n q r → IsGiven net book n q r
given_more net id book n q r h = given_by net book h.grant n q r (without_in id book h.grant h.is_grant).0 (given_gives net (without_id id book) n q r h)

fewer : (id : ℕ) (book : List Grant) → length (without_id id book) ≤ length book
fewer id [] = omega arith
fewer id (g ∷ gs) = by (g.id == id) (fewer id gs)
  where
    by : (b : Bool) → length (without_id id gs) ≤ length gs → length (if not b then g ∷ without_id id gs else without_id id gs) ≤ suc (length gs)
    by true l = omega arith
    by false l = omega arith

-- a sound book is sound without the grants of an id
pub revoked_sound : (net : List NodeDecl) (id : ℕ) (book : List Grant) → IsSound net book → IsSound net (without_id id book)
revoked_sound net id book sound = record {
  few = (let l = fewer id book in let m = sound.few in omega arith);
  ids = AllPairs-filter (λ (a b : Grant). a.id ≢ b.id) (λ g. not (g.id == id)) book sound.ids;
  grants = λ k m. sound.grants k (without_in id book k m).0;
  agree = λ n q r s a b. sound.agree n q r s (given_more net id book n q r a) (given_more net id book n q s b);
  alone = λ a b ma mb. sound.alone a b (without_in id book a ma).0 (without_in id book b mb).0;
}
