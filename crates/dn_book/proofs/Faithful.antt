-- A faithful book stays so as an admissible grant comes, and as grants go.
use Rattle.std.proofs.Common.{◌≡◌, ℕ, zero, suc, ◌+◌, ◌-◌, ◌/◌, ◌^◌, ◌<◌, ◌≤◌, ◌⊎◌, inl, inr, Bool, true, false, if◌then◌else◌, nat_eq, nat_le, List, [], ◌∷◌, ◌++◌, slice_get, Option, Some, None, IsTrue, refl, sym, ap, ◌∙◌, subst, arith, pow_pos}
use Rattle.dn_base.proofs.Members.{member_left, member_right}
use Rattle.dn_base.proofs.Orders.{cases_eq}
use Rattle.dn_net.specs.declared.node.Name.{Name}
use Rattle.dn_net.specs.declared.node.NodeDecl.{NodeDecl}
use Rattle.dn_net.specs.declared.node.Unit.{Unit as UnitPart}
use Rattle.dn_net.specs.Chain.{IsChain, Member}
use Rattle.dn_net.specs.Decode.{Resolves, Step, top, unit_at}
use Rattle.dn_net.specs.Legal.{IsLegalNet}
use Rattle.dn_net.proofs.Stops.{shallow_reach}
use Rattle.dn_kind.specs.declared.rights.Access.{Access}
use Rattle.dn_kind.specs.declared.rights.Rights.{Rights}
use Rattle.dn_kind.specs.declared.unit_kind.Record.{Record}
use Rattle.dn_kind.specs.Rights.{allows, both_rights}
use Rattle.dn_kind.specs.Tables.{AreHeld, Extends, Held, ResolvesUnder, StepUnder, allowing, output, record_allowing, steps_by_unit}
use Rattle.dn_kind.specs.Ways.{PassesIn, Slot, slot_in}
use Rattle.dn_kind.proofs.Ways.{chain_passes_slots, legal_one_row_of_slots, more_records_keep_names, allowing_held, allowing_more}
use Rattle.dn_kind.proofs.Allowed.{both_allow}
use Rattle.dn_tables.specs.declared.placement.Hop.{Hop}
use Rattle.dn_placement.specs.Exposure.{Adds, IsAdmissible}
use Rattle.dn_placement.specs.Placement.{IsPlacement, name_on}
use Rattle.dn_placement.specs.Records.{first_slot, hop_rights, joined_records, last_slot, or_record, slot_record}
use Rattle.dn_book.specs.declared.grant.Grant.{Grant}
use Rattle.dn_book.specs.Book.{IsFaithful, IsGrantedName, IsSound, Owes, grant_records, open_slots, owns_slot, records_of, uses_slot, without_id}
use Rattle.dn_book.specs.Laws.{EmptyBookIsFaithful, GrantKeepsBook, RevokeKeepsBook}
use Rattle.dn_book.proofs.Given.{between_gives, by_owns, gives_taken, given_by, held_in, in_held, uses_given}
use Rattle.dn_book.proofs.Hops.{div_mono}
use Rattle.dn_book.proofs.Live.{book_held}
use Rattle.dn_book.proofs.Sound.{granted_sound, given_gives, in_without, last_cases, placed_hop, revoked_sound, without_in}
use Rattle.dn_book.proofs.Through.{AllHold, WayOver, allowed_there, chain_under, leads_accepted, leads_on, passed_held, passes_append, passes_more, resolves, way_over}

-- THE EMPTY BOOK

-- under no records only the net's own steps are left
empty_step : (net : List NodeDecl) (access : Access) (x y : Name) → StepUnder net (allowing access (records_of net [])) x y → Step net x y
empty_step net access x y = by (unit_at net x.node)
  where
    by : (o : Option UnitPart) → Member y (steps_by_unit net (allowing access (records_of net [])) x o) → Step net x y
    by None m = m
    by (Some u) m = go (nat_le x.addr top) m
      where
        go : (b : Bool) → Member y (if b then output u None x.addr else []) → Step net x y
        go true n = absurd n
        go false n = absurd n

empty_chain : (net : List NodeDecl) (access : Access) (k : ℕ) (x y : Name) → IsChain (StepUnder net (allowing access (records_of net []))) k x y → IsChain (Step net) k x y
empty_chain net access zero x y c = c
empty_chain net access (suc k) x y c = (c.0, empty_step net access x c.0 c.1, empty_chain net access k c.0 y c.2)

-- what the net resolves is resolved under records
net_resolves : (net : List NodeDecl) → IsLegalNet net → (h : Held) → AreHeld net h → (x y : Name) → Resolves net x y → ResolvesUnder net h x y
net_resolves net legal h held x y r = resolves net legal h held x y r.0 (r.1.0, chain_under net legal h r.1.0 x y r.1.2)

pub empty_book_is_faithful : EmptyBookIsFaithful
empty_book_is_faithful net legal = (sound, λ access x y agent. (down access x y, up access x y))
  where
    sound : IsSound net []
    sound = record {
      few = omega arith;
      ids = λ i j d l m. absurd (omega arith);
      grants = λ g m. absurd m;
      agree = λ n q r s a b. absurd a.is_grant;
      alone = λ g k m n. absurd m;
    }

    down : (access : Access) (x y : Name) → ResolvesUnder net (allowing access (records_of net [])) x y → Owes net [] access x y
    down access x y r = inl (r.0, shallow_reach net legal.walks.shallow x y (r.1.0, empty_chain net access r.1.0 x y r.1.2))

    up : (access : Access) (x y : Name) → Owes net [] access x y → ResolvesUnder net (allowing access (records_of net [])) x y
    up access x y (inl r) = net_resolves net legal (allowing access (records_of net [])) (λ n q t e. (let c : None ≡ Some t = e in cc)) x y r
    up access x y (inr g) = absurd g.is_grant

-- ONE MORE GRANT

-- its records come to those of the book
records_more : (net : List NodeDecl) (book : List Grant) (g : Grant) (n q : ℕ) → records_of net (book ++ g ∷ []) n q ≡ or_record (records_of net book n q) (grant_records net g n q)
records_more net [] g n q = none (grant_records net g n q)
  where
    none : (o : Option Record) → or_record o None ≡ o
    none None = refl
    none (Some r) = refl
records_more net (k ∷ book) g n q = by (grant_records net k n q) (records_more net book g n q)
  where
    by : (o : Option Record) → records_of net (book ++ g ∷ []) n q ≡ or_record (records_of net book n q) (grant_records net g n q) → or_record o (records_of net (book ++ g ∷ []) n q) ≡ or_record (or_record o (records_of net book n q)) (grant_records net g n q)
    by None e = e
    by (Some r) e = refl

granted_faithful : (net : List NodeDecl) (book : List Grant) (g : Grant) → IsFaithful net book → IsAdmissible net (records_of net book) g.request g.placement → IsFaithful net (book ++ g ∷ [])
granted_faithful net book g f admissible access x y agent = (down, up)
  where
    same : ◌≡◌ {A = Held} (records_of net (book ++ g ∷ [])) (joined_records (records_of net book) (grant_records net g))
    same = λ i n q. records_more net book g n q i

    down : ResolvesUnder net (allowing access (records_of net (book ++ g ∷ []))) x y → Owes net (book ++ g ∷ []) access x y
    down r = elim ((admissible access x y agent).0 (subst (λ (h : Held). ResolvesUnder net (allowing access h) x y) same r)) [
      | inl a ↦ elim ((f access x y agent).0 a) [
        | inl b ↦ inl b
        | inr b ↦ inr (record { grant = b.grant; is_grant = member_left book (g ∷ []) b.grant b.is_grant; allowed = b.allowed; adds = b.adds })
      ]
      | inr a ↦ inr (record { grant = g; is_grant = member_right book (g ∷ []) g (inl refl); allowed = a.0; adds = a.1 })
    ]

    up : Owes net (book ++ g ∷ []) access x y → ResolvesUnder net (allowing access (records_of net (book ++ g ∷ []))) x y
    up o = subst (λ (h : Held). ResolvesUnder net (allowing access h) x y) (sym same) ((admissible access x y agent).1 (by o))
      where
        by : Owes net (book ++ g ∷ []) access x y → ResolvesUnder net (allowing access (records_of net book)) x y ⊎ (IsTrue (allows g.request.rights access) × Adds g.request g.placement.v x y)
        by (inl r) = inl ((f access x y agent).1 (inl r))
        by (inr b) = elim (last_cases book g b.grant b.is_grant) [
          | inl m ↦ inl ((f access x y agent).1 (inr (record { grant = b.grant; is_grant = m; allowed = b.allowed; adds = b.adds })))
          | inr e ↦ inr (subst (λ (k : Grant). IsTrue (allows k.request.rights access) × Adds k.request k.placement.v x y) (sym e) (b.allowed, b.adds))
        ]

pub grant_keeps_book : GrantKeepsBook
grant_keeps_book net book g legal sound f = (granted_sound net legal book g sound f, λ faithful admissible. granted_faithful net book g faithful admissible)

-- GRANTS THAT GO

-- the rights of each hop of a grant allow what those of the grant do
hop_allows : (r : Rights) (own place : ℕ) (access : Access) → allows r access ≡ true → allows (hop_rights r own place) access ≡ true
hop_allows r own place access e = by (nat_eq place own)
  where
    by : (b : Bool) → allows (if b then r else both_rights) access ≡ true
    by true = e
    by false = both_allow access

-- the slot of an address of the buffer is one of the hop's
slot_between : (u : UnitPart) (size : ℕ) (hop : Hop) (i : ℕ) → i < size → (first_slot u hop ≤ (hop.x + i) / 2 ^ u.page) × ((hop.x + i) / 2 ^ u.page ≤ last_slot u size hop)
slot_between u size hop i l = (div_mono (2 ^ u.page) hop.x (hop.x + i) (pow_pos u.page) (omega arith), div_mono (2 ^ u.page) (hop.x + i) (hop.x + size - 1) (pow_pos u.page) (omega arith))

module _ (net : List NodeDecl) (legal : IsLegalNet net) (book : List Grant) (sound : IsSound net book) (g : Grant) (live : Member g book) (access : Access) (allowed : IsTrue (allows g.request.rights access)) where
  abbrev placed : IsPlacement net open_slots g.request g.placement
  placed = (sound.grants g live).placed

  -- what a hop of a live grant gives stands in the slots that allow the access
  hop_held : (j : ℕ) (hop : Hop) (u : UnitPart) (q : ℕ) → slice_get g.placement.hops j ≡ Some hop → unit_at net hop.unit ≡ Some u → first_slot u hop ≤ q → q ≤ last_slot u g.request.size hop → allowing access (records_of net book) hop.unit q ≡ Some (slot_record u (hop_rights g.request.rights g.placement.own j) hop q)
  hop_held j hop u q at e low high =
      let r = hop_rights g.request.rights g.placement.own j in
      let gives = between_gives net g.request.size r hop u q e low high in
      let held : records_of net book hop.unit q ≡ Some (slot_record u r hop q) = in_held net book sound.agree hop.unit q (slot_record u r hop q) (given_by net book g hop.unit q (slot_record u r hop q) live (record { place = j; hop = hop; is_hop = at; gives = gives })) in
      ap (record_allowing access) held ∙ ap (λ b. if b then Some (slot_record u r hop q) else None) (hop_allows g.request.rights g.placement.own j access allowed)

  all_hold : (i : ℕ) → i < g.request.size → AllHold net (allowing access (records_of net book)) i g.placement.hops
  all_hold i l j hop u at e =
      let b = slot_between u g.request.size hop i l in
      (slot_record u (hop_rights g.request.rights g.placement.own j) hop ((hop.x + i) / 2 ^ u.page), hop_held j hop u ((hop.x + i) / 2 ^ u.page) at e b.0 b.1, refl, refl)

  -- so the grant gives its buffer
  gives_buffer : (i : ℕ) → i < g.request.size → ResolvesUnder net (allowing access (records_of net book)) (name_on g.request.agent g.placement.v i) (name_on g.request.node g.request.base i)
  gives_buffer i l =
      resolves net legal (allowing access (records_of net book)) (allowing_held net (records_of net book) access (book_held net legal book sound)) (name_on g.request.agent g.placement.v i) (name_on g.request.node g.request.base i)
      (leads_accepted net open_slots g.request g.placement.hops g.request.agent g.placement.v i l placed.meets placed.leads)
      (leads_on net legal (allowing access (records_of net book)) open_slots g.request g.placement.hops g.request.agent g.placement.v i l placed.meets placed.leads (all_hold i l))

  -- and by a way over its own hop
  over_own : (i : ℕ) → i < g.request.size → WayOver net (allowing access (records_of net book)) (name_on g.request.agent g.placement.v i) (name_on g.request.node g.request.base i) (name_on placed.own.unit placed.own.x i)
  over_own i l = way_over net legal (allowing access (records_of net book)) open_slots g.request g.placement.hops g.request.agent g.placement.v i l placed.meets placed.leads (all_hold i l) g.placement.own placed.own placed.is_own

  -- the slot of its own hop
  own_slot : (i : ℕ) → i < g.request.size → (u : UnitPart) × (unit_at net placed.own.unit ≡ Some u) × (owns_slot net placed.own.unit ((placed.own.x + i) / 2 ^ u.page) g ≡ true)
  own_slot i l =
      let h = placed_hop net legal open_slots g.request g.placement placed g.placement.own placed.own placed.is_own in
      let b = slot_between h.unit g.request.size placed.own i l in
      let gives = between_gives net g.request.size both_rights placed.own h.unit ((placed.own.x + i) / 2 ^ h.unit.page) h.is_unit b.0 b.1 in
      (h.unit, h.is_unit, by_owns net g placed.own.unit ((placed.own.x + i) / 2 ^ h.unit.page) placed.own placed.is_own (gives_taken net g.request.size both_rights placed.own placed.own.unit ((placed.own.x + i) / 2 ^ h.unit.page) _ gives))

-- what is owed is given
owed_given : (net : List NodeDecl) → IsLegalNet net → (book : List Grant) → IsSound net book → (access : Access) (x y : Name) → Owes net book access x y → ResolvesUnder net (allowing access (records_of net book)) x y
owed_given net legal book sound access x y (inl r) = net_resolves net legal (allowing access (records_of net book)) (allowing_held net (records_of net book) access (book_held net legal book sound)) x y r
owed_given net legal book sound access x y (inr b) =
    let r = gives_buffer net legal book sound b.grant b.is_grant access b.allowed b.adds.i b.adds.below in
    subst (λ w. ResolvesUnder net (allowing access (records_of net book)) w y) (sym b.adds.from) (subst (λ w. ResolvesUnder net (allowing access (records_of net book)) (name_on b.grant.request.agent b.grant.placement.v b.adds.i) w) (sym b.adds.to) r)

-- the records without a grant are records of the book
pub less_held : (net : List NodeDecl) (id : ℕ) (book : List Grant) → IsSound net book → Extends (records_of net (without_id id book)) (records_of net book)
less_held net id book sound n q r e =
    let h = held_in net (without_id id book) n q r e in
    in_held net book sound.agree n q r (given_by net book h.grant n q r (without_in id book h.grant h.is_grant).0 (given_gives net (without_id id book) n q r h))

-- what a grant gives is not given without it
ends_with : (net : List NodeDecl) → IsLegalNet net → (id : ℕ) (book : List Grant) → IsSound net book → (access : Access) (x y : Name) (b : IsGrantedName book access x y) → b.grant.id ≡ id → ResolvesUnder net (allowing access (records_of net (without_id id book))) x y → ⊥
ends_with net legal id book sound access x y b same r = nothing
  where
    g : Grant
    g = b.grant

    hi : Held
    hi = allowing access (records_of net book)

    lo : Held
    lo = allowing access (records_of net (without_id id book))

    more : Extends lo hi
    more = allowing_more (records_of net (without_id id book)) (records_of net book) access (less_held net id book sound)

    p : IsPlacement net open_slots g.request g.placement
    p = (sound.grants g b.is_grant).placed

    s : Name
    s = name_on p.own.unit p.own.x b.adds.i

    w : WayOver net hi (name_on g.request.agent g.placement.v b.adds.i) (name_on g.request.node g.request.base b.adds.i) s
    w = over_own net legal book sound g b.is_grant access b.allowed b.adds.i b.adds.below

    o : (u : UnitPart) × (unit_at net p.own.unit ≡ Some u) × (owns_slot net p.own.unit ((p.own.x + b.adds.i) / 2 ^ u.page) g ≡ true)
    o = own_slot net legal book sound g b.is_grant access b.allowed b.adds.i b.adds.below

    q : ℕ
    q = (p.own.x + b.adds.i) / 2 ^ o.0.page

    before : (row : List Slot) × PassesIn net hi w.before.0 x s row
    before = subst (λ n. (row : List Slot) × PassesIn net hi w.before.0 n s row) (sym b.adds.from) ((chain_passes_slots net hi w.before.0 (name_on g.request.agent g.placement.v b.adds.i) s).0 w.before.1)

    after : (row : List Slot) × PassesIn net hi (suc w.after) s y row
    after = subst (λ n. (row : List Slot) × PassesIn net hi (suc w.after) s n row) (sym b.adds.to) ((chain_passes_slots net hi (suc w.after) s (name_on g.request.node g.request.base b.adds.i)).0 w.chain)

    -- the own slot is in that row
    own_in : Member (record { unit = p.own.unit; slot = q }) after.0
    own_in =
        let here : Member (record { unit = p.own.unit; slot = q }) (slot_in s (Some o.0) ++ after.1.1) = inl refl in
        subst (Member (record { unit = p.own.unit; slot = q })) (sym (after.1.3 ∙ ap (λ v. slot_in s v ++ after.1.1) o.1)) here

    low : (row : List Slot) × PassesIn net lo r.1.0 x y row
    low = (chain_passes_slots net lo r.1.0 x y).0 r.1.2

    rows : before.0 ++ after.0 ≡ low.0
    rows = legal_one_row_of_slots net hi legal x y y (before.0 ++ after.0) low.0 r.0 r.0
        (w.before.0 + suc w.after, passes_append net hi w.before.0 (suc w.after) x s y before.0 after.0 before.1 after.1)
        (r.1.0, passes_more net lo hi more r.1.0 x y low.0 low.1)

    held : (t : Record) × (lo p.own.unit q ≡ Some t)
    held = passed_held net lo r.1.0 x y low.0 (record { unit = p.own.unit; slot = q }) low.1 (subst (Member (record { unit = p.own.unit; slot = q })) rows (member_right before.0 after.0 (record { unit = p.own.unit; slot = q }) own_in))

    nothing : ⊥
    nothing =
        let there : records_of net (without_id id book) p.own.unit q ≡ Some held.0 = allowed_there (records_of net (without_id id book)) access p.own.unit q held.0 held.1 in
        let h = held_in net (without_id id book) p.own.unit q held.0 there in
        let k = without_in id book h.grant h.is_grant in
        let used : uses_slot net p.own.unit q h.grant ≡ true = uses_given net (without_id id book) p.own.unit q held.0 h in
        let c : true ≡ false = sym used ∙ sound.alone g h.grant b.is_grant k.0 (λ e. k.1 (sym e ∙ same)) p.own.unit q o.2 in
        cc

revoked_faithful : (net : List NodeDecl) → IsLegalNet net → (id : ℕ) (book : List Grant) → IsSound net book → IsFaithful net book → IsFaithful net (without_id id book)
revoked_faithful net legal id book sound f access x y agent = (down, owed_given net legal (without_id id book) (revoked_sound net id book sound) access x y)
  where
    more : Extends (allowing access (records_of net (without_id id book))) (allowing access (records_of net book))
    more = allowing_more (records_of net (without_id id book)) (records_of net book) access (less_held net id book sound)

    down : ResolvesUnder net (allowing access (records_of net (without_id id book))) x y → Owes net (without_id id book) access x y
    down r = elim ((f access x y agent).0 (more_records_keep_names net (allowing access (records_of net (without_id id book))) (allowing access (records_of net book)) more x y r)) [
      | inl a ↦ inl a
      | inr b ↦ elim (cases_eq b.grant.id id) [
        | inl e ↦ absurd (ends_with net legal id book sound access x y b e r)
        | inr ne ↦ inr (record { grant = b.grant; is_grant = in_without id book b.grant b.is_grant ne; allowed = b.allowed; adds = b.adds })
      ]
    ]

pub revoke_keeps_book : RevokeKeepsBook
revoke_keeps_book net book id legal sound = (revoked_sound net id book sound, revoked_faithful net legal id book sound)
