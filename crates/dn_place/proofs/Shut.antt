-- No placement stands at an address that leads to no slot which a hop may take.
use Rattle.std.proofs.Common.{◌≡◌, ℕ, ◌+◌, ◌-◌, ◌/◌, ◌^◌, ◌<◌, ◌≤◌, List, [], ◌∷◌, length, slice_get, Option, Some, None, IfSome, is_some, true, IsTrue, refl, sym, ap, ◌∙◌, subst, arith}
use Rattle.std.proofs.lemmas.Bool.{false≢true}
use Rattle.std.proofs.lemmas.Nat.{le-div, pow_pos}
use Rattle.std.proofs.Math.Nat.{div-lt_iff_lt-mul, div-mul-le_self}
use Rattle.dn_interval.specs.declared.row.End.{End}
use Rattle.dn_interval.specs.declared.span.Span.{Span}
use Rattle.dn_interval.proofs.Membership.{in_from}
use Rattle.dn_net.specs.declared.node.Name.{Name}
use Rattle.dn_net.specs.declared.node.NodeDecl.{NodeDecl}
use Rattle.dn_net.specs.Decode.{is_agent_at, top, StopsAt}
use Rattle.dn_net.specs.Legal.{IsLegalNet}
use Rattle.dn_kind.specs.declared.unit_kind.Record.{Record}
use Rattle.dn_kind.specs.Rights.{are_rights}
use Rattle.dn_tables.specs.declared.placement.Hop.{Hop}
use Rattle.dn_placement.specs.declared.request.Request.{Request}
use Rattle.dn_placement.specs.Order.{IsAt, NoneSuited}
use Rattle.dn_placement.specs.Placement.{Joins, Leads, Meets, name_on}
use Rattle.dn_placement.specs.Slots.{AreProper, Slots}
use Rattle.dn_walk.specs.Ends.{name_of_end}
use Rattle.dn_flat.specs.Crowds.{AreCrowded, IsCrowded}
use Rattle.dn_view.proofs.Alone.{reached_alone}
use Rattle.dn_place.specs.declared.slot_state.SlotState.{SlotState}
use Rattle.dn_place.specs.Marks.{IsEntry}
use Rattle.dn_place.specs.Slots.{IsBarred, is_usable_slot}
use Rattle.dn_place.proofs.Usable.{usable_is}

-- a hop finds the slot of its input usable
open_slot : (net : List NodeDecl) (slots : Slots) (rq : Request) (hop : Hop) (nearer : List Hop) → 1 ≤ rq.size → Joins net slots rq hop nearer → IsBarred net slots (record { node = hop.unit; base = hop.x }) → ⊥
open_slot net slots rq hop nearer some j barred =
    false≢true (subst (λ (f : SlotState). IsTrue (is_usable_slot hop.port (hop.y / 2 ^ j.unit.page + (hop.x / 2 ^ j.unit.page - hop.x / 2 ^ j.unit.page)) f)) (barred j.unit j.is_unit low) (usable_is slots j.unit hop (hop.x / 2 ^ j.unit.page) (j.usable (hop.x / 2 ^ j.unit.page) (omega arith) last)))
  where
    low : hop.x / 2 ^ j.unit.page < j.unit.slots
    low = (div-lt_iff_lt-mul {k = 2 ^ j.unit.page} {x = hop.x} {y = j.unit.slots} (pow_pos j.unit.page)).1 (omega (arith, j.fits.within, some))

    last : hop.x / 2 ^ j.unit.page ≤ (hop.x + rq.size - 1) / 2 ^ j.unit.page
    last = le-div (hop.x / 2 ^ j.unit.page) (hop.x + rq.size - 1) (2 ^ j.unit.page) (pow_pos j.unit.page) (omega (arith, div-mul-le_self hop.x (2 ^ j.unit.page), some))

pub shut_off : (net : List NodeDecl) (slots : Slots) (agent : ℕ) (at : Option ℕ) (entry : Option End) → IsEntry net agent at entry → (at ≡ None → ⊥) → ((z : End) → entry ≡ Some z → IsBarred net slots z) → (rq : Request) → rq.agent ≡ agent → NoneSuited net slots rq at
shut_off net slots agent at entry e asked barred rq same q w = go q.hops refl
  where
    plain : (m b : ℕ) → ◌≡◌ {A = End} (record { node = m; base = b + 0 }) (record { node = m; base = b })
    plain m b = let k : b + 0 ≡ b = omega arith in ap (λ (n : ℕ). record { node = m; base = n }) k

    go : (hops : List Hop) → q.hops ≡ hops → ⊥
    go [] f = let n : length q.hops ≡ 0 = ap length f in let l = w.is_placement.least in omega arith
    go (hop ∷ hops) f = by at refl
      where
        meets : StopsAt net (name_on rq.agent q.v 0) (name_on hop.unit hop.x 0)
        meets = (subst (λ (hs : List Hop). Meets net rq rq.agent q.v hs) f w.is_placement.meets) 0 w.is_placement.some

        joins : Joins net slots rq hop hops
        joins = (subst (λ (hs : List Hop). Leads net slots rq hs) f w.is_placement.leads).0

        by : (o : Option ℕ) → at ≡ o → ⊥
        by None p = asked p
        by (Some v) p =
            let here : q.v ≡ v = subst (λ (o : Option ℕ). IsAt o q.v) p w.is_at in
            let stops = subst (λ (n : ℕ). StopsAt net (record { node = n; addr = v }) (name_on hop.unit hop.x 0)) same (subst (λ (n : ℕ). StopsAt net (record { node = rq.agent; addr = n }) (name_on hop.unit hop.x 0)) (let k : q.v + 0 ≡ v = omega arith in k) meets) in
            let low : v ≤ top = omega (arith, w.is_placement.fits, w.is_placement.some) in
            open_slot net slots rq hop hops w.is_placement.some joins (barred (record { node = hop.unit; base = hop.x }) (e.reached v (name_on hop.unit hop.x 0) p low stops ∙ ap (λ (z : End). Some z) (plain hop.unit hop.x)))

-- no placement stands at an address whose stop another address of an agent reaches
pub crowd_off : (net : List NodeDecl) → IsLegalNet net → (agent at : ℕ) (entry : End) → IsTrue (is_agent_at (slice_get net agent)) → IsEntry net agent (Some at) (Some entry) → IsCrowded net (name_of_end entry) → (slots : Slots) (rq : Request) → AreProper net slots → rq.agent ≡ agent → IsTrue (are_rights rq.rights) → NoneSuited net slots rq (Some at)
crowd_off net legal agent at entry is_agent e crowd slots rq proper same rights q w = go q.hops refl
  where
    no_record : (node slot : ℕ) → IsTrue (slots.is_free node slot) → slots.held node slot ≡ None
    no_record node slot free = by (slots.held node slot) refl
      where
        by : (o : Option Record) → slots.held node slot ≡ o → slots.held node slot ≡ None
        by None f = f
        by (Some r) f = absurd (proper.empty node slot free r f)

    go : (hops : List Hop) → q.hops ≡ hops → ⊥
    go [] f = let n : length q.hops ≡ 0 = ap length f in let l = w.is_placement.least in omega arith
    go (hop ∷ hops) f = twice.differ (only twice.one twice.one_agent twice.one_stops ∙ sym (only twice.other twice.other_agent twice.other_stops))
      where
        t : Name
        t = name_on hop.unit hop.x 0

        meets : StopsAt net (name_on rq.agent q.v 0) t
        meets = (subst (λ (hs : List Hop). Meets net rq rq.agent q.v hs) f w.is_placement.meets) 0 w.is_placement.some

        stops : StopsAt net (record { node = agent; addr = at }) t
        stops = subst (λ (n : ℕ). StopsAt net (record { node = n; addr = at }) t) same (subst (λ (n : ℕ). StopsAt net (record { node = rq.agent; addr = n }) t) (let k : q.v + 0 ≡ at = omega (arith, w.is_at) in k) meets)

        low : at ≤ top
        low = omega (arith, w.is_placement.fits, w.is_placement.some, w.is_at)

        here : entry ≡ record { node = t.node; base = t.addr }
        here = some entry (record { node = t.node; base = t.addr }) (e.reached at t refl low stops)
          where
            some : (a b : End) → Some a ≡ Some b → a ≡ b
            some a b p = cc

        twice : IsCrowded net t
        twice = subst (λ (z : End). IsCrowded net (name_of_end z)) here crowd

        only : (x : Name) → IsTrue (is_agent_at (slice_get net x.node)) → StopsAt net x t → x ≡ name_on rq.agent q.v 0
        only x there st = reached_alone net slots rq q legal proper.held rights no_record (subst (λ (n : ℕ). IsTrue (is_agent_at (slice_get net n))) (sym same) is_agent) w.is_placement w.admissible 0 w.is_placement.some t x meets there st

-- a span of names that two addresses of agents reach, with this name
pub crowd_here : (net : List NodeDecl) (unit first : ℕ) (o : Option Span) → is_some o ≡ true → IfSome o (λ s. AreCrowded net unit s) → IfSome o (λ s. first ≤ s.hi) → IfSome o (λ s. s.lo < first + 1) → IsCrowded net (record { node = unit; addr = first })
crowd_here net unit first None e are from to = cc
crowd_here net unit first (Some s) e are from to = are first (in_from s first (omega (arith, to)) from)
