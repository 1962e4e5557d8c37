-- An addition that gives an agent exactly one name more has, in the slots that the name's chain passes,
-- an admissible placement.
use Rattle.std.proofs.Common.{◌≡◌, ◌∙◌, sym, ap, refl, subst, ℕ, zero, suc, ◌+◌, ◌*◌, ◌/◌, ◌^◌, ◌<◌, ◌≤◌, ◌⊎◌, ◌↔◌, inl, inr, Bool, true, false, if◌then◌else◌, not, nat_eq, List, [], ◌∷◌, Option, Some, None, slice_get, IsTrue, arith, pow_pos, div-lt_iff_lt-mul}
use Rattle.std.proofs.lemmas.Bool.{cases_lt, eq-eqb, ne_eqb}
use Rattle.dn_base.proofs.Orders.{cases_eq}
use Rattle.dn_base.proofs.Members.{member_at}
use Rattle.dn_net.specs.declared.node.Name.{Name}
use Rattle.dn_net.specs.declared.node.NodeDecl.{NodeDecl}
use Rattle.dn_net.specs.declared.node.Unit.{Unit as UnitPart}
use Rattle.dn_net.specs.Chain.{IsChain, Member}
use Rattle.dn_net.specs.Decode.{Resolves, Step, StopsAt, is_accepted, is_agent_at, is_stop, top, unit_at}
use Rattle.dn_net.specs.Legal.{IsLegalNet}
use Rattle.dn_net.proofs.Chains.{chain_more, chain_join}
use Rattle.dn_kind.specs.declared.rights.Access.{Access}
use Rattle.dn_kind.specs.declared.rights.Rights.{Rights}
use Rattle.dn_kind.specs.declared.unit_kind.Record.{Record}
use Rattle.dn_kind.specs.Rights.{allows, are_rights, both_rights}
use Rattle.dn_kind.specs.Tables.{AreHeld, Extends, Held, ResolvesUnder, StepUnder, allowing}
use Rattle.dn_kind.proofs.Ways.{more_records_keep_names, step_under, step_more, allowing_more, allowing_held}
use Rattle.dn_kind.proofs.Allowed.{both_allow}
use Rattle.dn_tables.specs.declared.placement.Hop.{Hop}
use Rattle.dn_tables.specs.Placement.{Place}
use Rattle.dn_placement.specs.declared.request.Request.{Request}
use Rattle.dn_placement.specs.Exposure.{Adds, Gives}
use Rattle.dn_placement.specs.Order.{IsSuited}
use Rattle.dn_placement.specs.Placement.{IsUsable, Joins, Leads, Meets, is_free, is_shared}
use Rattle.dn_placement.specs.Records.{first_slot, hop_rights, hops_records, joined_records, last_slot, slot_record}
use Rattle.dn_placement.specs.Slots.{AreProper, Slots}
use Rattle.dn_view.specs.Addition.{GivesExactly, IsAddition, RefusalIsComplete, name_of_address}
use Rattle.dn_view.proofs.AddedHops.{HoldAll, hops_hold, hops_sub, record_is, record_of, slot_is}
use Rattle.dn_view.proofs.AddedRights.{allowed_here, both_or_not, joined_below, joined_cases, joined_left, joined_right, mask_less, some_allowed}
use Rattle.dn_view.proofs.AddedRows.{HopStep, Row, accepted_ends, chain_of_row, one_from_stop, one_to_stop, one_way_within, row_of, stop_of_hop, stop_part, through_record, unit_unaccepted}
use Rattle.dn_view.proofs.AddedWays.{few_hops, hop_fits, hops_differ, last_chain, last_length, last_of, no_stops, on_row, other_end, page_of, passes_slot, resolves, resolves_fixed, row_at, stops_fixed}

-- the record of a hop, by its rights
rec_is : (net : List NodeDecl) (h : Held) (x : Name) (hop : Hop) (j : ℕ) (z : Name)
    (w : HopStep net h x hop j z) (rights : Rights) → w.rec.rights ≡ rights →
    w.rec ≡ record_of rights w.unit hop
rec_is net h x hop j z w rights e =
    let page : w.rec.page ≡ hop.y / 2 ^ w.unit.page = sym (page_of net h x hop j z w) in
    let same : record { port = w.rec.port; page = w.rec.page; rights = w.rec.rights } ≡ record_of rights w.unit hop =
    ap (λ p. record { port = p; page = w.rec.page; rights = w.rec.rights }) w.is_rec
    ∙ ap (λ p. record { port = hop.port; page = p; rights = w.rec.rights }) page
    ∙ ap (λ p. record { port = hop.port; page = hop.y / 2 ^ w.unit.page; rights = p }) e in
    same

-- the unit before the last name of a row
pub record LastUnit (net : List NodeDecl) (h : Held) (x last : Name) : Type 0 where
  unit : Name
  is_stop : IsTrue (is_stop net unit)
  length : ℕ
  chain : IsChain (StepUnder net h) length x unit
  step : StepUnder net h unit last

pub last_unit : (net : List NodeDecl) (legal : IsLegalNet net) (h : Held) (x : Name) (hop : Hop)
    (hops : List Hop) (y : Name) (k : ℕ) (r : Row net h x (hop ∷ hops) y k) →
    LastUnit net h x (last_of net legal h x (hop ∷ hops) y k r)
last_unit net legal h x hop [] y k r =
    let w : HopStep net h x hop r.0 r.2 = r.3 in
    record {
      unit = record { node = hop.unit; addr = hop.x };
      is_stop = stop_of_hop net h x r.2 hop r.0 w;
      length = r.0;
      chain = chain_more (Step net) (StepUnder net h) (step_under net legal.is_net.formed h) r.0 x (record { node = hop.unit; addr = hop.x }) w.before;
      step = through_record net h x hop r.0 r.2 w;
    }
last_unit net legal h x hop (hop' ∷ hops) y k r =
    let w : HopStep net h x hop r.0 r.2 = r.3 in
    let l : LastUnit net h r.2 (last_of net legal h r.2 (hop' ∷ hops) y r.1 r.4) = last_unit net legal h r.2 hop' hops y r.1 r.4 in
    let before = chain_more (Step net) (StepUnder net h) (step_under net legal.is_net.formed h) r.0 x (record { node = hop.unit; addr = hop.x }) w.before in
    let c : IsChain (StepUnder net h) (suc l.length) (record { node = hop.unit; addr = hop.x }) l.unit = (r.2, through_record net h x hop r.0 r.2 w, l.chain) in
    record {
      unit = l.unit;
      is_stop = l.is_stop;
      length = r.0 + suc l.length;
      chain = chain_join (StepUnder net h) r.0 (suc l.length) x (record { node = hop.unit; addr = hop.x }) l.unit before c;
      step = l.step;
    }

module _ (net : List NodeDecl) (slots : Slots) (agent node base : ℕ) (rights : Rights) (v : ℕ)
    (added : Held) (legal : IsLegalNet net) (proper : AreProper net slots)
    (is_agent : IsTrue (is_agent_at (slice_get net agent))) (are : IsTrue (are_rights rights))
    (ad : IsAddition net slots rights added)
    (ex : GivesExactly net slots (record { agent = agent; node = node; base = base; size = 1; rights = rights }) v added)
  where
    abbrev rq : Request
    rq = record { agent = agent; node = node; base = base; size = 1; rights = rights }

    abbrev start : Name
    start = name_of_address agent v

    abbrev end : Name
    end = name_of_address node base

    -- the records that were there and those that are added
    abbrev all : Held
    all = joined_records slots.held added

    -- an access that the rights allow
    abbrev access0 : Access
    access0 = (some_allowed rights are).0

    allowed0 : IsTrue (allows rights access0)
    allowed0 = (some_allowed rights are).1

    -- the record of the one slot has the rights
    special_is : (n q : ℕ) (r : Record) → n ≡ ad.node → q ≡ ad.slot → added n q ≡ Some r → r.rights ≡ rights
    special_is n q r en eq e =
        let f : Some ad.own ≡ Some r = sym ad.is_own ∙ ap (λ m. added m ad.slot) (sym en) ∙ ap (λ m. added n m) (sym eq) ∙ e in
        let same : ad.own ≡ r = cc in
        ap (λ (t : Record). t.rights) (sym same) ∙ ad.has_rights

    -- an added record is the one with the rights, or has both
    kind_of : (n q : ℕ) (r : Record) → added n q ≡ Some r →
        ((n ≡ ad.node) × (q ≡ ad.slot) × (r.rights ≡ rights)) ⊎ (r.rights ≡ both_rights)
    kind_of n q r e = elim (cases_eq n ad.node) [
      | inr ne ↦ inr (ad.others n q r e (λ a b. ne a))
      | inl en ↦ (elim (cases_eq q ad.slot) [
        | inr ne ↦ inr (ad.others n q r e (λ a b. ne b))
        | inl eq ↦ inl (en, eq, special_is n q r en eq e)
      ])
    ]

    all_held : AreHeld net all
    all_held n q r e = elim (joined_cases slots.held added n q r e) [
      | inl s ↦ proper.held n q r s
      | inr s ↦ ad.held n q r s.1
    ]

    adds : Adds rq v start end
    adds =
        let ev : v ≡ v + 0 = omega arith in
        let eb : base ≡ base + 0 = omega arith in
        record {
          i = 0;
          below = omega arith;
          from = ap (λ a. record { node = agent; addr = a }) ev;
          to = ap (λ a. record { node = node; addr = a }) eb;
        }

    -- the name with the records added
    res : ResolvesUnder net (allowing access0 all) start end
    res = (ex.gives access0 start end is_agent).1 (inr (allowed0, adds))

    sub0 : Extends (allowing access0 all) all
    sub0 = mask_less access0 all

    old_sub : (access : Access) → Extends (allowing access slots.held) all
    old_sub access n q r e = joined_left slots.held added n q r (mask_less access slots.held n q r e)

    -- the slots of a chain to the name are not owned
    unowned : (g : Held) → Extends g all → (hops : List Hop) (k : ℕ) → Row net g start hops end k →
        (hop : Hop) → Member hop hops → (u : UnitPart) → unit_at net hop.unit ≡ Some u →
        IsTrue (not (slots.has_owner hop.unit (hop.x / 2 ^ u.page)))
    unowned g sub hops k r hop m u e =
        let o = on_row net legal g hops start end k r hop m in
        let s : Name = record { node = hop.unit; addr = hop.x } in
        let p = passes_slot net legal all o.comes.0 o.goes start s o.next end u e
        (chain_more (StepUnder net g) (StepUnder net all) (step_more net g all sub) o.comes.0 start s o.comes.1)
        (step_more net g all sub s o.next o.first)
        (chain_more (StepUnder net g) (StepUnder net all) (step_more net g all sub) o.goes o.next end o.rest) in
        ex.unowned p.0 p.1 (record { unit = hop.unit; slot = hop.x / 2 ^ u.page }) p.2

    -- no chain of the old records alone comes to the name, for whatever access
    no_old : (access : Access) (k : ℕ) → IsTrue (is_accepted net end) →
        IsChain (StepUnder net (allowing access slots.held)) k start end → ⊥
    no_old access k acc c =
        let r = row_of net (allowing access slots.held) k start end c in
        let r' = row_at net (allowing access slots.held) (allowing access0 slots.held) r.0 start end k r.1 (λ hop m u e t f. both r.0 r.1 hop m u e t (mask_less access slots.held hop.unit (hop.x / 2 ^ u.page) t f)) in
        ex.new access0 allowed0
        (resolves net legal (allowing access0 slots.held) (allowing_held net slots.held access0 proper.held) start end k acc
        (chain_of_row net legal.is_net.formed (allowing access0 slots.held) r.0 start end k r'))
      where
        both : (hops : List Hop) → Row net (allowing access slots.held) start hops end k → (hop : Hop) →
            Member hop hops → (u : UnitPart) → unit_at net hop.unit ≡ Some u → (t : Record) →
            slots.held hop.unit (hop.x / 2 ^ u.page) ≡ Some t →
            allowing access0 slots.held hop.unit (hop.x / 2 ^ u.page) ≡ Some t
        both hops r hop m u e t f =
            let b = proper.shared hop.unit (hop.x / 2 ^ u.page) t f (unowned (allowing access slots.held) (old_sub access) hops k r hop m u e) in
            allowed_here access0 slots.held hop.unit (hop.x / 2 ^ u.page) t f (subst (λ s. IsTrue (allows s access0)) (sym b) (both_allow access0))

    -- THE ROW OF THE NAME
    module _ (hop0 : Hop) (hops0 : List Hop) (k : ℕ) (acc : IsTrue (is_accepted net end))
        (row : Row net (allowing access0 all) start (hop0 ∷ hops0) end k) where
      abbrev hops : List Hop
      hops = hop0 ∷ hops0

      mask_is_held : AreHeld net (allowing access0 all)
      mask_is_held = allowing_held net all access0 all_held

      free_of_owner : (hop : Hop) → Member hop hops → (u : UnitPart) → unit_at net hop.unit ≡ Some u →
          IsTrue (not (slots.has_owner hop.unit (hop.x / 2 ^ u.page)))
      free_of_owner = unowned (allowing access0 all) sub0 hops k row

      -- the record of a hop was there, with both rights, or is added
      found : (hop : Hop) → Member hop hops → (u : UnitPart) → unit_at net hop.unit ≡ Some u → (t : Record) →
          all hop.unit (hop.x / 2 ^ u.page) ≡ Some t →
          ((slots.held hop.unit (hop.x / 2 ^ u.page) ≡ Some t) × (t.rights ≡ both_rights))
          ⊎ (added hop.unit (hop.x / 2 ^ u.page) ≡ Some t)
      found hop m u e t f = elim (joined_cases slots.held added hop.unit (hop.x / 2 ^ u.page) t f) [
        | inl s ↦ inl (s, proper.shared hop.unit (hop.x / 2 ^ u.page) t s (free_of_owner hop m u e))
        | inr s ↦ inr s.1
      ]

      abbrev last : Name
      last = last_of net legal (allowing access0 all) start hops end k row

      to_end : (n : ℕ) × IsChain (Step net) n last end
      to_end = (last_length net legal (allowing access0 all) start hops end k row, last_chain net legal (allowing access0 all) start hops end k row)

      before_last : LastUnit net (allowing access0 all) start last
      before_last = last_unit net legal (allowing access0 all) start hop0 hops0 end k row

      -- no chain of the old records alone comes to an accepted name
      nothing_old : (access : Access) (z : Name) → IsTrue (is_accepted net z) → (j : ℕ) →
          IsChain (StepUnder net (allowing access slots.held)) j start z → ⊥
      nothing_old access z az j d =
          elim (one_way_within (StepUnder net all) (StepUnder net (allowing access slots.held)) before_last.unit
          (step_more net (allowing access slots.held) all (old_sub access))
          (one_to_stop net all legal.units.no_fork before_last.unit before_last.is_stop)
          before_last.length j start z
          (chain_more (StepUnder net (allowing access0 all)) (StepUnder net all) (step_more net (allowing access0 all) all sub0) before_last.length start before_last.unit before_last.chain) d) [
            | inl l ↦ after l.0 l.1
            | inr l ↦ through l.0 l.1 l.2
          ]
        where
          no_stop : IsTrue (is_accepted net before_last.unit) → ⊥
          no_stop b =
              let u = stop_part net before_last.unit before_last.is_stop in
              unit_unaccepted net legal.is_net.formed before_last.unit u.0 u.1 b

          after : (n : ℕ) → IsChain (StepUnder net all) n z before_last.unit → ⊥
          after zero e = no_stop (subst (λ w. IsTrue (is_accepted net w)) e az)
          after (suc n) e = accepted_ends net legal.is_net.formed all z e.0 az e.1

          through : (n : ℕ) → IsChain (StepUnder net (allowing access slots.held)) before_last.length start before_last.unit →
              IsChain (StepUnder net (allowing access slots.held)) n before_last.unit z → ⊥
          through zero p e = no_stop (subst (λ w. IsTrue (is_accepted net w)) (sym e) az)
          through (suc n) p e =
              let same : e.0 ≡ last = one_from_stop net all before_last.unit e.0 last before_last.is_stop
              (step_more net (allowing access slots.held) all (old_sub access) before_last.unit e.0 e.1)
              (step_more net (allowing access0 all) all sub0 before_last.unit last before_last.step) in
              let s : StepUnder net (allowing access slots.held) before_last.unit last = subst (λ w. StepUnder net (allowing access slots.held) before_last.unit w) same e.1 in
              let q : IsChain (StepUnder net (allowing access slots.held)) (suc to_end.0) before_last.unit end =
              (last, s, chain_more (Step net) (StepUnder net (allowing access slots.held)) (step_under net legal.is_net.formed (allowing access slots.held)) to_end.0 last end to_end.1) in
              no_old access (before_last.length + suc to_end.0) acc
              (chain_join (StepUnder net (allowing access slots.held)) before_last.length (suc to_end.0) start before_last.unit end p q)

      -- the last name leads to the end alone
      only : (z : Name) → Resolves net last z → z ≡ end
      only z s =
          let o = other_end net legal (allowing access0 all) start hops end k row z s.1.0 s.1.2 in
          let c = chain_of_row net legal.is_net.formed (allowing access0 all) hops start z o.0 o.1 in
          let r = resolves net legal (allowing access0 all) mask_is_held start z o.0 s.0 c in
          elim ((ex.gives access0 start z is_agent).0 r) [
            | inl f ↦ absurd (nothing_old access0 z s.0 f.1.0 f.1.2)
            | inr f ↦ target f.1
          ]
        where
          target : Adds rq v start z → z ≡ end
          target f =
              let l : f.i < 1 = f.below in
              let e : base + f.i ≡ base = omega arith in
              f.to ∙ ap (λ a. record { node = node; addr = a }) e

      exact : (z : Name) → Resolves net last z ↔ (z ≡ end)
      exact z = (only z, λ e. subst (λ w. Resolves net last w) (sym e) (resolves_fixed net legal last end to_end.0 acc to_end.1))

      quiet : (z : Name) → StopsAt net last z → ⊥
      quiet z s = no_stops net legal last end z to_end.0 s.1.0 acc to_end.1 s.0 s.1.2

      -- THE PLACEMENT
      meets_end : (x : Name) → ((z : Name) → Resolves net x z ↔ (z ≡ end)) →
          ((z : Name) → StopsAt net x z → ⊥) → Meets net rq x.node x.addr []
      meets_end x right still i l =
          let ei : i ≡ 0 = omega arith in
          let ax : x.addr ≡ x.addr + i = omega arith in
          let ab : base ≡ base + i = omega arith in
          let Q : ℕ → ℕ → Type 0 = λ a b. ((z : Name) → Resolves net (record { node = x.node; addr = a }) z ↔ (z ≡ record { node = node; addr = b })) × ((z : Name) → StopsAt net (record { node = x.node; addr = a }) z → ⊥) in
          let here : Q x.addr base = (right, still) in
          subst (λ b. Q (x.addr + i) b) ab (subst (λ a. Q a base) ax here)

      meets_hop : (x z : Name) (hop : Hop) (j : ℕ) (nearer : List Hop) →
          HopStep net (allowing access0 all) x hop j z → Meets net rq x.node x.addr (hop ∷ nearer)
      meets_hop x z hop j nearer w i l =
          let ax : x.addr ≡ x.addr + i = omega arith in
          let au : hop.x ≡ hop.x + i = omega arith in
          let Q : ℕ → ℕ → Type 0 = λ a b. StopsAt net (record { node = x.node; addr = a }) (record { node = hop.unit; addr = b }) in
          let here : Q x.addr hop.x = stops_fixed net legal x (record { node = hop.unit; addr = hop.x }) j (stop_of_hop net (allowing access0 all) x z hop j w) w.before in
          subst (λ b. Q (x.addr + i) b) au (subst (λ a. Q a hop.x) ax here)

      usable : (x z : Name) (hop : Hop) (j : ℕ) (w : HopStep net (allowing access0 all) x hop j z) →
          Member hop hops → (q : ℕ) → first_slot w.unit hop ≤ q → q ≤ last_slot w.unit 1 hop →
          IsUsable slots w.unit hop q
      usable x z hop j w m q lo hi =
          let eq = slot_is w.unit hop q lo hi in
          let f : all hop.unit (hop.x / 2 ^ w.unit.page) ≡ Some w.rec = sub0 hop.unit (hop.x / 2 ^ w.unit.page) w.rec w.holds in
          subst (λ n. IsUsable slots w.unit hop n) (sym eq) (elim (found hop m w.unit w.is_unit w.rec f) [
            | inl s ↦ is_shared (held_as s.0 s.1) (free_of_owner hop m w.unit w.is_unit)
            | inr s ↦ is_free (ad.free hop.unit (hop.x / 2 ^ w.unit.page) w.rec s)
          ])
        where
          held_as : slots.held hop.unit (hop.x / 2 ^ w.unit.page) ≡ Some w.rec → w.rec.rights ≡ both_rights →
              slots.held hop.unit (hop.x / 2 ^ w.unit.page) ≡ Some (slot_record w.unit both_rights hop (hop.x / 2 ^ w.unit.page))
          held_as s b = s ∙ ap Some (rec_is net (allowing access0 all) x hop j z w both_rights b) ∙ ap Some (sym (record_is both_rights w.unit hop (hop.x / 2 ^ w.unit.page) refl))

      lead : (x : Name) (ks : List Hop) (n : ℕ) (r : Row net (allowing access0 all) x ks end n) →
          ((hop : Hop) → Member hop ks → Member hop hops) →
          ((z : Name) → Resolves net (last_of net legal (allowing access0 all) x ks end n r) z ↔ (z ≡ end)) →
          ((z : Name) → StopsAt net (last_of net legal (allowing access0 all) x ks end n r) z → ⊥) →
          Meets net rq x.node x.addr ks × Leads net slots rq ks
      lead x [] n r among right still = (meets_end x right still, tt)
      lead x (hop ∷ ks) n r among right still =
          let w : HopStep net (allowing access0 all) x hop r.0 r.2 = r.3 in
          let f = hop_fits net legal (allowing access0 all) mask_is_held x hop r.0 r.2 w in
          let rest = lead r.2 ks r.1 r.4 (λ a m. among a (inr m)) right still in
          let inside : hop.x < w.unit.slots * 2 ^ w.unit.page = (div-lt_iff_lt-mul {k = 2 ^ w.unit.page} {x = hop.x} {y = w.unit.slots} (pow_pos w.unit.page)).0 f.inside in
          let below : hop.y < 2 ^ w.unit.reach = f.below in
          let joins : Joins net slots rq hop ks = record {
            unit = w.unit;
            is_unit = w.is_unit;
            fits = record { node = w.node; is_port = w.is_port; agree = f.same; within = omega (arith, inside); reached = omega (arith, below) };
            usable = usable x r.2 hop r.0 w (among hop (inl refl));
            meets = subst (λ (s : Name). Meets net rq s.node s.addr ks) (sym w.to_is) rest.0;
          } in
          (meets_hop x r.2 hop r.0 ks w, (joins, rest.1))

      -- which hop is the own one: its slot is free, and the rights of all records are as they should be
      record IsOwnHop (own : ℕ) : Type 0 where
        hop : Hop
        at : slice_get hops own ≡ Some hop
        free : (u : UnitPart) → unit_at net hop.unit ≡ Some u → IsTrue (slots.is_free hop.unit (hop.x / 2 ^ u.page))
        right : (i : ℕ) (a : Hop) → slice_get hops i ≡ Some a → (u : UnitPart) → unit_at net a.unit ≡ Some u →
            (t : Record) → all a.unit (a.x / 2 ^ u.page) ≡ Some t → t.rights ≡ hop_rights rights own i

      hold_all : (own : ℕ) (x : Name) (ks : List Hop) (n : ℕ) → Row net (allowing access0 all) x ks end n →
          (place : ℕ) → ((i : ℕ) (a : Hop) → slice_get ks i ≡ Some a → (u : UnitPart) →
          unit_at net a.unit ≡ Some u → (t : Record) → all a.unit (a.x / 2 ^ u.page) ≡ Some t →
          t.rights ≡ hop_rights rights own (place + i)) → HoldAll net all rights own place ks
      hold_all own x [] n r place right = tt
      hold_all own x (hop ∷ ks) n r place right = (
        here,
        hold_all own r.2 ks r.1 r.4 (suc place) (λ i a at u e t f.
            let s : place + suc i ≡ suc place + i = omega arith in
            right (suc i) a at u e t f ∙ ap (hop_rights rights own) s),
      )
        where
          w : HopStep net (allowing access0 all) x hop r.0 r.2
          w = r.3

          here : (u : UnitPart) → unit_at net hop.unit ≡ Some u →
              all hop.unit (hop.x / 2 ^ u.page) ≡ Some (record_of (hop_rights rights own place) u hop)
          here u e =
              let same : w.unit ≡ u = (let f : Some w.unit ≡ Some u = sym w.is_unit ∙ e in cc) in
              let f : all hop.unit (hop.x / 2 ^ w.unit.page) ≡ Some w.rec = sub0 hop.unit (hop.x / 2 ^ w.unit.page) w.rec w.holds in
              let s : place + 0 ≡ place = omega arith in
              let b : w.rec.rights ≡ hop_rights rights own place = right 0 hop refl w.unit w.is_unit w.rec f ∙ ap (hop_rights rights own) s in
              subst (λ (p : UnitPart). all hop.unit (hop.x / 2 ^ p.page) ≡ Some (record_of (hop_rights rights own place) p hop)) same
              (f ∙ ap Some (rec_is net (allowing access0 all) x hop r.0 r.2 w (hop_rights rights own place) b))

      -- the record of a hop of a place, among records that hold all
      hold_at : (g : Held) (own place : ℕ) (ks : List Hop) → HoldAll net g rights own place ks → (hop : Hop) →
          Member hop ks → (u : UnitPart) → unit_at net hop.unit ≡ Some u →
          (r : Rights) × (g hop.unit (hop.x / 2 ^ u.page) ≡ Some (record_of r u hop)) × ((r ≡ rights) ⊎ (r ≡ both_rights))
      hold_at g own place [] a hop m u e = absurd m
      hold_at g own place (b ∷ ks) a hop (inr m) u e = hold_at g own (suc place) ks a.1 hop m u e
      hold_at g own place (b ∷ ks) a hop (inl s) u e = (
        hop_rights rights own place,
        subst (λ (c : Hop). g c.unit (c.x / 2 ^ u.page) ≡ Some (record_of (hop_rights rights own place) u c)) s (a.0 u (ap (λ (c : Hop). unit_at net c.unit) s ∙ e)),
        which (nat_eq place own),
      )
        where
          which : (t : Bool) → ((if t then rights else both_rights) ≡ rights) ⊎ ((if t then rights else both_rights) ≡ both_rights)
          which true = inl refl
          which false = inr refl

      placed : (own : ℕ) → IsOwnHop own → (p : Place) × IsSuited net slots rq (Some v) p
      placed own o = (
        record { v = v; hops = hops; own = own },
        record {
          is_placement = record {
            some = omega arith;
            fits = (let l : v ≤ top = ex.low in omega arith);
            least = omega arith;
            most = few_hops net legal (allowing access0 all) mask_is_held hops start end k row;
            meets = leads.0;
            leads = leads.1;
            own = o.hop;
            is_own = o.at;
            free = λ u e q lo hi. subst (λ n. IsTrue (slots.is_free o.hop.unit n)) (sym (slot_is u o.hop q lo hi)) (o.free u e);
          };
          is_at = refl;
          admissible = gives;
        },
      )
        where
          leads : Meets net rq start.node start.addr hops × Leads net slots rq hops
          leads = lead start hops k row (λ a m. m) exact quiet

          holds : HoldAll net all rights own 0 hops
          holds = hold_all own start hops k row 0 (λ i a at u e t f. let s : i ≡ 0 + i = omega arith in o.right i a at u e t f ∙ ap (hop_rights rights own) s)

          gives : Gives net slots.held (joined_records slots.held (hops_records net 1 rights own 0 hops)) rq v
          gives access x y ag = (
            (λ s. (ex.gives access x y ag).0 (more_records_keep_names net (allowing access with) (allowing access all) (allowing_more with all access below) x y s)),
            (λ s. elim s [
              | inl a ↦ more_records_keep_names net (allowing access slots.held) (allowing access with) (allowing_more slots.held with access (joined_left slots.held (hops_records net 1 rights own 0 hops))) x y a
              | inr a ↦ shown a.0 a.1
            ]),
          )
            where
              with : Held
              with = joined_records slots.held (hops_records net 1 rights own 0 hops)

              sub : Extends (hops_records net 1 rights own 0 hops) all
              sub = hops_sub net all rights own 0 hops holds

              below : Extends with all
              below = joined_below slots.held (hops_records net 1 rights own 0 hops) all (joined_left slots.held added) sub

              here : (hop : Hop) → Member hop hops → (u : UnitPart) → unit_at net hop.unit ≡ Some u → (t : Record) →
                  allowing access0 all hop.unit (hop.x / 2 ^ u.page) ≡ Some t → IsTrue (allows rights access) →
                  allowing access with hop.unit (hop.x / 2 ^ u.page) ≡ Some t
              here hop m u e t f al =
                  let h = hold_at (hops_records net 1 rights own 0 hops) own 0 hops (hops_hold net all rights own 0 hops holds) hop m u e in
                  let w : with hop.unit (hop.x / 2 ^ u.page) ≡ Some (record_of h.0 u hop) = joined_right slots.held (hops_records net 1 rights own 0 hops) all (joined_left slots.held added) sub hop.unit (hop.x / 2 ^ u.page) (record_of h.0 u hop) h.1 in
                  let same : record_of h.0 u hop ≡ t = (let g : Some (record_of h.0 u hop) ≡ Some t = sym (below hop.unit (hop.x / 2 ^ u.page) (record_of h.0 u hop) w) ∙ sub0 hop.unit (hop.x / 2 ^ u.page) t f in cc) in
                  let ok : IsTrue (allows h.0 access) = elim h.2 [
                    | inl r ↦ subst (λ s. IsTrue (allows s access)) (sym r) al
                    | inr b ↦ subst (λ s. IsTrue (allows s access)) (sym b) (both_allow access)
                  ] in
                  subst (λ s. allowing access with hop.unit (hop.x / 2 ^ u.page) ≡ Some s) same (allowed_here access with hop.unit (hop.x / 2 ^ u.page) (record_of h.0 u hop) w ok)

              seen : IsTrue (allows rights access) → ResolvesUnder net (allowing access with) start end
              seen al =
                  resolves net legal (allowing access with) (allowing_held net with access (λ n q r e. all_held n q r (below n q r e))) start end k acc
                  (chain_of_row net legal.is_net.formed (allowing access with) hops start end k
                  (row_at net (allowing access0 all) (allowing access with) hops start end k row (λ hop m u e t f. here hop m u e t f al)))

              shown : IsTrue (allows rights access) → Adds rq v x y → ResolvesUnder net (allowing access with) x y
              shown al a =
                  let l : a.i < 1 = a.below in
                  let ev : v ≡ v + a.i = omega arith in
                  let eb : base ≡ base + a.i = omega arith in
                  let ex' : start ≡ x = ap (λ n. record { node = agent; addr = n }) ev ∙ sym a.from in
                  let ey : end ≡ y = ap (λ n. record { node = node; addr = n }) eb ∙ sym a.to in
                  subst (λ w. ResolvesUnder net (allowing access with) x w) ey (subst (λ w. ResolvesUnder net (allowing access with) w end) ex' (seen al))

      -- THE OWN HOP
      -- some hop takes the slot of the record with the rights, or none does
      record IsSpecial (ks : List Hop) (i : ℕ) : Type 0 where
        hop : Hop
        at : slice_get ks i ≡ Some hop
        node_is : hop.unit ≡ ad.node
        slot_at : (u : UnitPart) → unit_at net hop.unit ≡ Some u → hop.x / 2 ^ u.page ≡ ad.slot

      abbrev NoneSpecial : List Hop → Type 0
      NoneSpecial ks = (hop : Hop) → Member hop ks → (u : UnitPart) → unit_at net hop.unit ≡ Some u →
          hop.unit ≡ ad.node → hop.x / 2 ^ u.page ≡ ad.slot → ⊥

      special_or : (x : Name) (ks : List Hop) (n : ℕ) → Row net (allowing access0 all) x ks end n →
          ((i : ℕ) × IsSpecial ks i) ⊎ NoneSpecial ks
      special_or x [] n r = inr (λ hop m. absurd m)
      special_or x (hop ∷ ks) n r =
          go (cases_eq hop.unit ad.node) (cases_eq (hop.x / 2 ^ w.unit.page) ad.slot) (special_or r.2 ks r.1 r.4)
        where
          w : HopStep net (allowing access0 all) x hop r.0 r.2
          w = r.3

          same : (u : UnitPart) → unit_at net hop.unit ≡ Some u → w.unit ≡ u
          same u e = let f : Some w.unit ≡ Some u = sym w.is_unit ∙ e in cc

          later : (i : ℕ) → IsSpecial ks i → IsSpecial (hop ∷ ks) (suc i)
          later i s = record { hop = s.hop; at = s.at; node_is = s.node_is; slot_at = s.slot_at }

          go : (hop.unit ≡ ad.node) ⊎ (hop.unit ≡ ad.node → ⊥) →
              (hop.x / 2 ^ w.unit.page ≡ ad.slot) ⊎ (hop.x / 2 ^ w.unit.page ≡ ad.slot → ⊥) →
              ((i : ℕ) × IsSpecial ks i) ⊎ NoneSpecial ks →
              ((i : ℕ) × IsSpecial (hop ∷ ks) i) ⊎ NoneSpecial (hop ∷ ks)
          go (inl a) (inl b) rest = inl (
            0,
            record {
              hop = hop;
              at = refl;
              node_is = a;
              slot_at = λ u e. subst (λ (p : UnitPart). hop.x / 2 ^ p.page ≡ ad.slot) (same u e) b;
            },
          )
          go (inr a) d (inl f) = inl (suc f.0, later f.0 f.1)
          go (inl a) (inr b) (inl f) = inl (suc f.0, later f.0 f.1)
          go (inr a) d (inr none) = inr (λ c m u e f g. elim m [
            | inl s ↦ absurd (a (ap (λ (z : Hop). z.unit) s ∙ f))
            | inr n ↦ none c n u e f g
          ])
          go (inl a) (inr b) (inr none) = inr (λ c m u e f g. elim m [
            | inl s ↦ absurd (b (here c u s e g))
            | inr n ↦ none c n u e f g
          ])
            where
              here : (c : Hop) (u : UnitPart) → hop ≡ c → unit_at net c.unit ≡ Some u →
                  c.x / 2 ^ u.page ≡ ad.slot → hop.x / 2 ^ w.unit.page ≡ ad.slot
              here c u s e g =
                  ap (λ (p : UnitPart). hop.x / 2 ^ p.page) (same u (ap (λ (z : Hop). unit_at net z.unit) s ∙ e))
                  ∙ ap (λ (z : Hop). z.x / 2 ^ u.page) s ∙ g

      -- some hop's slot held no record, or each held one
      record IsNewHop (ks : List Hop) (i : ℕ) : Type 0 where
        hop : Hop
        at : slice_get ks i ≡ Some hop
        new : (u : UnitPart) → unit_at net hop.unit ≡ Some u → (t : Record) →
            slots.held hop.unit (hop.x / 2 ^ u.page) ≡ Some t → ⊥

      abbrev AreOld : List Hop → Type 0
      AreOld ks = (hop : Hop) → Member hop ks → (u : UnitPart) → unit_at net hop.unit ≡ Some u →
          (t : Record) × (slots.held hop.unit (hop.x / 2 ^ u.page) ≡ Some t)

      new_or : (x : Name) (ks : List Hop) (n : ℕ) → Row net (allowing access0 all) x ks end n →
          ((i : ℕ) × IsNewHop ks i) ⊎ AreOld ks
      new_or x [] n r = inr (λ hop m. absurd m)
      new_or x (hop ∷ ks) n r =
          go (slots.held hop.unit (hop.x / 2 ^ w.unit.page)) refl (new_or r.2 ks r.1 r.4)
        where
          w : HopStep net (allowing access0 all) x hop r.0 r.2
          w = r.3

          same : (u : UnitPart) → unit_at net hop.unit ≡ Some u → w.unit ≡ u
          same u e = let f : Some w.unit ≡ Some u = sym w.is_unit ∙ e in cc

          none : slots.held hop.unit (hop.x / 2 ^ w.unit.page) ≡ None → (t : Record) →
              slots.held hop.unit (hop.x / 2 ^ w.unit.page) ≡ Some t → ⊥
          none f t g = let c : None ≡ Some t = sym f ∙ g in cc

          go : (o : Option Record) → slots.held hop.unit (hop.x / 2 ^ w.unit.page) ≡ o →
              ((i : ℕ) × IsNewHop ks i) ⊎ AreOld ks → ((i : ℕ) × IsNewHop (hop ∷ ks) i) ⊎ AreOld (hop ∷ ks)
          go None f rest = inl (
            0,
            record {
              hop = hop;
              at = refl;
              new = λ u e t g. none f t (subst (λ (p : UnitPart). slots.held hop.unit (hop.x / 2 ^ p.page) ≡ Some t) (sym (same u e)) g);
            },
          )
          go (Some t) f (inl s) = inl (suc s.0, record { hop = s.1.hop; at = s.1.at; new = s.1.new })
          go (Some t) f (inr old) = inr (λ c m u e. elim m [
            | inl s ↦ (t, here c u s e)
            | inr n ↦ old c n u e
          ])
            where
              here : (c : Hop) (u : UnitPart) → hop ≡ c → unit_at net c.unit ≡ Some u →
                  slots.held c.unit (c.x / 2 ^ u.page) ≡ Some t
              here c u s e =
                  ap (λ (z : Hop). slots.held z.unit (z.x / 2 ^ u.page)) (sym s)
                  ∙ ap (λ (p : UnitPart). slots.held hop.unit (hop.x / 2 ^ p.page)) (sym (same u (ap (λ (z : Hop). unit_at net z.unit) s ∙ e)))
                  ∙ f

      not_all_old : AreOld hops → ⊥
      not_all_old old =
          let r' = row_at net (allowing access0 all) (allowing access0 slots.held) hops start end k row kept in
          no_old access0 k acc (chain_of_row net legal.is_net.formed (allowing access0 slots.held) hops start end k r')
        where
          kept : (hop : Hop) → Member hop hops → (u : UnitPart) → unit_at net hop.unit ≡ Some u → (t : Record) →
              allowing access0 all hop.unit (hop.x / 2 ^ u.page) ≡ Some t →
              allowing access0 slots.held hop.unit (hop.x / 2 ^ u.page) ≡ Some t
          kept hop m u e t f =
              let o = old hop m u e in
              let g : Some o.0 ≡ Some t = sym (joined_left slots.held added hop.unit (hop.x / 2 ^ u.page) o.0 o.1) ∙ sub0 hop.unit (hop.x / 2 ^ u.page) t f in
              let same : o.0 ≡ t = cc in
              let held : slots.held hop.unit (hop.x / 2 ^ u.page) ≡ Some t = o.1 ∙ ap Some same in
              let b = proper.shared hop.unit (hop.x / 2 ^ u.page) t held (free_of_owner hop m u e) in
              allowed_here access0 slots.held hop.unit (hop.x / 2 ^ u.page) t held (subst (λ s. IsTrue (allows s access0)) (sym b) (both_allow access0))

      -- a hop's slot that held no record is free
      new_free : (hop : Hop) → Member hop hops → (u : UnitPart) → unit_at net hop.unit ≡ Some u →
          ((t : Record) → slots.held hop.unit (hop.x / 2 ^ u.page) ≡ Some t → ⊥) →
          IsTrue (slots.is_free hop.unit (hop.x / 2 ^ u.page))
      new_free hop m u e none =
          let o = on_row net legal (allowing access0 all) hops start end k row hop m in
          let same : o.step.unit ≡ u = (let f : Some o.step.unit ≡ Some u = sym o.step.is_unit ∙ e in cc) in
          let f : all hop.unit (hop.x / 2 ^ u.page) ≡ Some o.step.rec =
          subst (λ (p : UnitPart). all hop.unit (hop.x / 2 ^ p.page) ≡ Some o.step.rec) same (sub0 hop.unit (hop.x / 2 ^ o.step.unit.page) o.step.rec o.step.holds) in
          elim (found hop m u e o.step.rec f) [
            | inl s ↦ absurd (none o.step.rec s.0)
            | inr s ↦ ad.free hop.unit (hop.x / 2 ^ u.page) o.step.rec s
          ]

      -- where the rights are both, any new hop may be the own one
      own_of_both : rights ≡ both_rights → (own : ℕ) × IsOwnHop own
      own_of_both both = elim (new_or start hops k row) [
        | inl f ↦ (f.0, record { hop = f.1.hop; at = f.1.at; free = (λ u e. new_free f.1.hop (member_at hops f.0 f.1.hop f.1.at) u e (f.1.new u e)); right = right f.0 })
        | inr old ↦ absurd (not_all_old old)
      ]
        where
          which : (t : Bool) → (if t then rights else both_rights) ≡ both_rights
          which true = both
          which false = refl

          right : (own i : ℕ) (a : Hop) → slice_get hops i ≡ Some a → (u : UnitPart) → unit_at net a.unit ≡ Some u →
              (t : Record) → all a.unit (a.x / 2 ^ u.page) ≡ Some t → t.rights ≡ hop_rights rights own i
          right own i a at u e t f =
              elim (found a (member_at hops i a at) u e t f) [
                | inl s ↦ s.1 ∙ sym (which (nat_eq i own))
                | inr s ↦ (elim (kind_of a.unit (a.x / 2 ^ u.page) t s) [
                  | inl c ↦ c.2 ∙ both ∙ sym (which (nat_eq i own))
                  | inr b ↦ b ∙ sym (which (nat_eq i own))
                ])
              ]

      -- where they are one right, the hop with that right is the own one
      own_of_one : (access : Access) → allows rights access ≡ false → (own : ℕ) × IsOwnHop own
      own_of_one access not_allowed = elim (special_or start hops k row) [
        | inl f ↦ (f.0, record { hop = f.1.hop; at = f.1.at; free = free f.0 f.1; right = right f.0 f.1 })
        | inr none ↦ absurd (elsewhere none)
      ]
        where
          elsewhere : NoneSpecial hops → ⊥
          elsewhere none =
              let r' = row_at net (allowing access0 all) (allowing access all) hops start end k row kept in
              let s = resolves net legal (allowing access all) (allowing_held net all access all_held) start end k acc (chain_of_row net legal.is_net.formed (allowing access all) hops start end k r') in
              elim ((ex.gives access start end is_agent).0 s) [
                | inl f ↦ no_old access f.1.0 acc f.1.2
                | inr f ↦ (let c : true ≡ false = sym f.0 ∙ not_allowed in cc)
              ]
            where
              kept : (hop : Hop) → Member hop hops → (u : UnitPart) → unit_at net hop.unit ≡ Some u → (t : Record) →
                  allowing access0 all hop.unit (hop.x / 2 ^ u.page) ≡ Some t →
                  allowing access all hop.unit (hop.x / 2 ^ u.page) ≡ Some t
              kept hop m u e t f =
                  let g = sub0 hop.unit (hop.x / 2 ^ u.page) t f in
                  let b : t.rights ≡ both_rights = elim (found hop m u e t g) [
                    | inl s ↦ s.1
                    | inr s ↦ (elim (kind_of hop.unit (hop.x / 2 ^ u.page) t s) [
                      | inl c ↦ absurd (none hop m u e c.0 c.1)
                      | inr b ↦ b
                    ])
                  ] in
                  allowed_here access all hop.unit (hop.x / 2 ^ u.page) t g (subst (λ s. IsTrue (allows s access)) (sym b) (both_allow access))

          special_free : IsTrue (slots.is_free ad.node ad.slot)
          special_free = ad.free ad.node ad.slot ad.own ad.is_own

          free : (i : ℕ) (s : IsSpecial hops i) (u : UnitPart) → unit_at net s.hop.unit ≡ Some u →
              IsTrue (slots.is_free s.hop.unit (s.hop.x / 2 ^ u.page))
          free i s u e =
              subst (λ n. IsTrue (slots.is_free n (s.hop.x / 2 ^ u.page))) (sym s.node_is)
              (subst (λ q. IsTrue (slots.is_free ad.node q)) (sym (s.slot_at u e)) special_free)

          right : (own : ℕ) (s : IsSpecial hops own) (i : ℕ) (a : Hop) → slice_get hops i ≡ Some a →
              (u : UnitPart) → unit_at net a.unit ≡ Some u → (t : Record) →
              all a.unit (a.x / 2 ^ u.page) ≡ Some t → t.rights ≡ hop_rights rights own i
          right own s i a at u e t f = elim (cases_eq i own) [
            | inl same ↦ here same ∙ ap (λ b. if b then rights else both_rights) (sym (eq-eqb i own same))
            | inr other ↦ there other ∙ ap (λ b. if b then rights else both_rights) (sym (ne_eqb i own other))
          ]
            where
              here : i ≡ own → t.rights ≡ rights
              here same =
                  let g : Some a ≡ Some s.hop = sym at ∙ ap (slice_get hops) same ∙ s.at in
                  let hop_is : a ≡ s.hop = cc in
                  let en : a.unit ≡ ad.node = ap (λ (z : Hop). z.unit) hop_is ∙ s.node_is in
                  let eq : a.x / 2 ^ u.page ≡ ad.slot = ap (λ (z : Hop). z.x / 2 ^ u.page) hop_is ∙ s.slot_at u (ap (λ (z : Hop). unit_at net z.unit) (sym hop_is) ∙ e) in
                  elim (joined_cases slots.held added a.unit (a.x / 2 ^ u.page) t f) [
                    | inl old ↦ absurd (proper.empty ad.node ad.slot special_free t (ap (λ n. slots.held n ad.slot) (sym en) ∙ ap (λ q. slots.held a.unit q) (sym eq) ∙ old))
                    | inr new ↦ special_is a.unit (a.x / 2 ^ u.page) t en eq new.1
                  ]

              apart : (i ≡ own → ⊥) → a.unit ≡ s.hop.unit → ⊥
              apart other same = elim (cases_lt i own) [
                | inl l ↦ hops_differ net legal (allowing access0 all) mask_is_held hops start end k row i own a s.hop l at s.at same
                | inr l ↦ hops_differ net legal (allowing access0 all) mask_is_held hops start end k row own i s.hop a (beyond l) s.at at (sym same)
              ]
                where
                  beyond : own ≤ i → own < i
                  beyond l = elim (cases_lt own i) [ inl m ↦ m | inr m ↦ absurd (other (omega arith)) ]

              there : (i ≡ own → ⊥) → t.rights ≡ both_rights
              there other = elim (found a (member_at hops i a at) u e t f) [
                | inl old ↦ old.1
                | inr new ↦ (elim (kind_of a.unit (a.x / 2 ^ u.page) t new) [
                  | inl c ↦ absurd (apart other (c.0 ∙ sym s.node_is))
                  | inr b ↦ b
                ])
              ]

      pub of_row : (p : Place) × IsSuited net slots rq (Some v) p
      of_row = elim (both_or_not rights are) [
        | inl both ↦ (let o = own_of_both both in placed o.0 o.1)
        | inr one ↦ (let o = own_of_one one.0 one.1 in placed o.0 o.1)
      ]

    pub refusal_of_one : (p : Place) × IsSuited net slots rq (Some v) p
    refusal_of_one =
        let r = row_of net (allowing access0 all) res.1.0 start end res.1.2 in go r.0 r.1
      where
        go : (hops : List Hop) → Row net (allowing access0 all) start hops end res.1.0 →
            (p : Place) × IsSuited net slots rq (Some v) p
        go [] r =
            absurd (no_old access0 res.1.0 res.0
            (chain_more (Step net) (StepUnder net (allowing access0 slots.held)) (step_under net legal.is_net.formed (allowing access0 slots.held)) res.1.0 start end r))
        go (hop ∷ hops) r = of_row hop hops res.1.0 res.0 r

pub refusal_is_complete : RefusalIsComplete
refusal_is_complete net slots rq v added legal proper agent are one ad ex =
    let P : ℕ → Type 0 = λ s. GivesExactly net slots (record { agent = rq.agent; node = rq.node; base = rq.base; size = s; rights = rq.rights }) v added →
    (p : Place) × IsSuited net slots (record { agent = rq.agent; node = rq.node; base = rq.base; size = s; rights = rq.rights }) (Some v) p in
    let base : P 1 = λ e. refusal_of_one net slots rq.agent rq.node rq.base rq.rights v added legal proper agent are ad e in
    subst P (sym one) base ex
