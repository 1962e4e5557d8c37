-- Which addresses of a node resolve to one of so many names, as the segments that are found tell.
use Rattle.std.proofs.Common.{◌≡◌, ℕ, ◌+◌, ◌-◌, ◌<◌, ◌≤◌, ◌↔◌, Bool, true, ◌&&◌, nat_eq, List, length, slice_get, Option, Some, None, refl, sym, ap, ◌∙◌, subst, arith, eqb-true, eq-eqb}
use Rattle.std.proofs.lemmas.Bool.{and_parts, and_from, false≢true}
use Rattle.std.proofs.lemmas.Option.{slice_get-get_or}
use Rattle.dn_interval.specs.declared.row.End.{End}
use Rattle.dn_interval.specs.declared.row.Row.{Row}
use Rattle.dn_interval.specs.declared.row.Seg.{Seg}
use Rattle.dn_interval.specs.declared.span.TheConstants.{TOP}
use Rattle.dn_interval.specs.Rows.{AreNormal, GivenBy, SegmentsGive, further_end}
use Rattle.dn_interval.specs.Spans.{in_span}
use Rattle.dn_interval.specs.Strands.{segs_give, rows_give}
use Rattle.dn_interval.specs.Onward.{gives_by, rows_of}
use Rattle.dn_interval.proofs.Membership.{hi_of, in_from, lo_of}
use Rattle.dn_interval.proofs.Names.{rows_from, rows_to, segs_from, segs_to}
use Rattle.dn_net.specs.declared.node.Name.{Name}
use Rattle.dn_net.specs.declared.node.NodeDecl.{NodeDecl}
use Rattle.dn_net.specs.Chain.{IsChain}
use Rattle.dn_net.specs.Decode.{Step, is_accepted}
use Rattle.dn_walk.specs.Ends.{name_of_end}
use Rattle.dn_flat.specs.declared.found.Continuation.TheVariants.{Accepts}
use Rattle.dn_flat.specs.declared.reach.Reach.{Reach}
use Rattle.dn_flat.specs.Levels.{AreLevels, NearFrom, ReachesFrom}
use Rattle.dn_flat.specs.Onward.{leads_by, levels_lead, seg_leads}
use Rattle.dn_flat.specs.Stages.{AreReaches}
use Rattle.dn_flat.proofs.Going.{levels_from, levels_to}
use Rattle.dn_flat.proofs.Shown.{accepted_low, accepting_from, accepting_to, given_low, no_reach}
use Rattle.dn_flat.proofs.There.{accepted_is_there}

end_same : (y z : End) → ◌≡◌ {A = Name} (name_of_end y) (name_of_end z) → y ≡ z
end_same y z e = λ i. record { node = (e i).node; base = (e i).addr }

module _ (net : List NodeDecl) (nodes : List Reach) (are : AreReaches net 1 nodes) (node : ℕ) (levels : List (List Row)) (is : AreLevels net node levels) (first : End) (size : ℕ) (buffer : Seg) (at : buffer.node ≡ first.node) (from : buffer.base ≡ first.base) (lo : buffer.span.lo ≡ first.base) (hi : buffer.span.hi + 1 ≡ first.base + size) where
  abbrev accepting : ℕ → ℕ → End → Bool
  accepting = gives_by (λ (r : Reach). r.done.accepts) nodes

  -- the rows give to each address of the buffer itself, where it is accepted
  module _ (near : List Seg) (rows : List Row) (given : (b : ℕ) (y : End) → segs_give near b y ≡ seg_leads (leads_by Accepts nodes) buffer b y) (normal : AreNormal (SegmentsGive near) rows) where
    abbrev toward : ℕ → ℕ → End → Bool
    toward n b y = nat_eq n first.node && gives_by (λ (r : Reach). rows) nodes n b y

    same_base : (b : ℕ) → buffer.span.lo ≤ b → buffer.base + (b - buffer.span.lo) ≡ b
    same_base b l = let f : buffer.base ≡ first.base = from in let g : buffer.span.lo ≡ first.base = lo in omega arith

    same_first : (b : ℕ) → buffer.span.lo ≤ b → b ≡ first.base + (b - first.base)
    same_first b l = let g : buffer.span.lo ≡ first.base = lo in omega arith

    few : (b : ℕ) → buffer.span.lo ≤ b → b ≤ buffer.span.hi → b - first.base < size
    few b l h = let g : buffer.span.lo ≡ first.base = lo in let e : buffer.span.hi + 1 ≡ first.base + size = hi in omega arith

    inside : (i : ℕ) → i < size → in_span buffer.span (first.base + i) ≡ true
    inside i l = let g : buffer.span.lo ≡ first.base = lo in let e : buffer.span.hi + 1 ≡ first.base + size = hi in in_from buffer.span (first.base + i) (omega arith) (omega arith)

    not_before : (i : ℕ) → buffer.span.lo ≤ first.base + i
    not_before i = let g : buffer.span.lo ≡ first.base = lo in omega arith

    toward_given : (n b : ℕ) (y : End) → toward n b y ≡ true → (n ≡ first.node) × (rows_give rows b y ≡ true)
    toward_given n b y e =
        let p = and_parts (nat_eq n first.node) (gives_by (λ (r : Reach). rows) nodes n b y) e in
        (eqb-true n first.node p.0, go (slice_get nodes n) p.1)
      where
        go : (o : Option Reach) → rows_give (rows_of (λ (r : Reach). rows) o) b y ≡ true → rows_give rows b y ≡ true
        go None f = absurd (false≢true f)
        go (Some r) f = f

    toward_to : (n b : ℕ) (y : End) → toward n b y ≡ true → (i : ℕ) × (i < size) × (is_accepted net (record { node = first.node; addr = first.base + i }) ≡ true) × ◌≡◌ {A = Name} (record { node = n; addr = b }) (record { node = first.node; addr = first.base + i }) × ◌≡◌ {A = Name} (record { node = n; addr = b }) (name_of_end y)
    toward_to n b y e =
        let t = toward_given n b y e in
        let g : GivenBy rows b y = rows_to rows b y t.1 in
        let s : segs_give near b y ≡ true = segs_from near b y ((normal.exact b y (given_low rows b y g)).1 g) in
        let p = and_parts (in_span buffer.span b) (accepting buffer.node (buffer.base + (b - buffer.span.lo)) y) (sym (given b y) ∙ s) in
        let l : buffer.span.lo ≤ b = lo_of buffer.span b p.0 in
        let h : b ≤ buffer.span.hi = hi_of buffer.span b p.0 in
        let q = accepting_to net nodes are buffer.node (buffer.base + (b - buffer.span.lo)) y p.1 in
        let name : ◌≡◌ {A = Name} (record { node = buffer.node; addr = buffer.base + (b - buffer.span.lo) }) (record { node = first.node; addr = first.base + (b - first.base) }) = λ i. record { node = at i; addr = (same_base b l ∙ same_first b l) i } in
        let itself : ◌≡◌ {A = Name} (record { node = n; addr = b }) (record { node = first.node; addr = first.base + (b - first.base) }) = λ i. record { node = t.0 i; addr = same_first b l i } in
        (b - first.base, few b l h, ap (is_accepted net) (sym name) ∙ (ap (is_accepted net) q.1 ∙ q.0), itself, itself ∙ (sym name ∙ q.1))

    toward_from : (i : ℕ) → i < size → is_accepted net (record { node = first.node; addr = first.base + i }) ≡ true → toward first.node (first.base + i) (record { node = first.node; base = first.base + i }) ≡ true
    toward_from i l e =
        let z : End = record { node = first.node; base = first.base + i } in
        let b : ℕ = first.base + i in
        let name : buffer.base + (b - buffer.span.lo) ≡ b = same_base b (not_before i) in
        let on : accepting buffer.node (buffer.base + (b - buffer.span.lo)) z ≡ true = ap (λ n. accepting n (buffer.base + (b - buffer.span.lo)) z) at ∙ (ap (λ n. accepting first.node n z) name ∙ accepting_from net nodes are z e) in
        let s : segs_give near b z ≡ true = given b z ∙ and_from (in_span buffer.span b) (accepting buffer.node (buffer.base + (b - buffer.span.lo)) z) (inside i l) on in
        let low : b ≤ TOP = accepted_low net (name_of_end z) e in
        let g : rows_give rows b z ≡ true = rows_from rows b z ((normal.exact b z low).0 (segs_to near b z s)) in
        let every : length nodes ≡ length net = are.every in
        let m : first.node < length net = accepted_is_there net (name_of_end z) e in
        let there = slice_get-get_or nodes first.node no_reach (omega arith) in
        and_from (nat_eq first.node first.node) (gives_by (λ (r : Reach). rows) nodes first.node b z) (eq-eqb first.node first.node refl) (ap (λ o. rows_give (rows_of (λ (r : Reach). rows) o) b z) there ∙ g)

    -- so levels come by them to the accepted names of the buffer to which an address resolves
    pub near_is : (a : ℕ) (z : End) → a ≤ TOP → (levels_lead toward levels a z ≡ true) ↔ NearFrom net node first size a z
    near_is a z low = (into, back)
      where
        into : levels_lead toward levels a z ≡ true → NearFrom net node first size a z
        into e =
            let r = levels_to toward a z levels e in
            let t = toward_to r.0.node r.0.base z r.2 in
            let by : ReachesFrom net node a r.0 = is.reached a r.0 low r.1 in
            let same : ◌≡◌ {A = Name} (record { node = first.node; addr = first.base + t.0 }) (name_of_end z) = sym t.3 ∙ t.4 in
            ((subst (λ n. is_accepted net n ≡ true) same t.2, (by.0, by.1, subst (IsChain (Step net) by.0 (record { node = node; addr = a })) t.4 by.2)), (t.0, t.1, end_same z (further_end t.0 first) (sym same)))

        back : NearFrom net node first size a z → levels_lead toward levels a z ≡ true
        back h =
            let at : z ≡ further_end h.1.0 first = h.1.2 in
            let acc : is_accepted net (record { node = first.node; addr = first.base + h.1.0 }) ≡ true = subst (λ (y : End). is_accepted net (name_of_end y) ≡ true) at h.0.0 in
            levels_from toward a z levels z (is.accepted a z low h.0) (subst (λ (y : End). toward y.node y.base y ≡ true) (sym at) (toward_from h.1.0 h.1.1 acc))
