-- What segments come to through a slot, as a relation; and level by level.
use Rattle.std.proofs.Common.{◌≡◌, ℕ, suc, ◌+◌, ◌-◌, ◌^◌, ◌<◌, ◌≤◌, ◌⊎◌, ◌↔◌, inl, inr, Bool, true, ◌&&◌, ◌||◌, nat_le, nat_lt, nat_eq, List, [], length, Option, Some, None, IsTrue, refl, sym, ap, ◌∙◌, subst, arith, le-leb, leb-true, eqb-true, eq-eqb, ltb-true}
use Rattle.std.proofs.lemmas.Bool.{and_parts, or_cases, false≢true}
use Rattle.dn_base.proofs.Members.{any_member, member_any, member_all}
use Rattle.dn_base.proofs.Booleans.{or_left, or_right}
use Rattle.dn_interval.specs.declared.row.End.{End}
use Rattle.dn_interval.specs.declared.row.Seg.{Seg}
use Rattle.dn_interval.specs.declared.span.TheConstants.{TOP}
use Rattle.dn_interval.specs.Spans.{in_span}
use Rattle.dn_interval.specs.Strands.{seg_gives, segs_give}
use Rattle.dn_net.specs.declared.node.Name.{Name}
use Rattle.dn_net.specs.declared.node.NodeDecl.{NodeDecl}
use Rattle.dn_net.specs.declared.node.Unit.{Unit as UnitPart}
use Rattle.dn_net.specs.Chain.{Member}
use Rattle.dn_net.specs.Decode.{top, is_stop, is_stop_at, unit_at, Resolves, StopsAt}
use Rattle.dn_net.specs.Legal.{IsLegalNet}
use Rattle.dn_kind.specs.Tables.{Held, AreHeld, ResolvesUnder, steps_by_unit, steps_under}
use Rattle.dn_kind.proofs.Bounds.{Led, led}
use Rattle.dn_kind.proofs.Nodes.{steps_under_there}
use Rattle.dn_walk.specs.Ends.{end_of, name_of_end}
use Rattle.dn_flat.specs.Levels.{AreFlats, FlatsView, levels_give, stops_in}
use Rattle.dn_flat.specs.Views.{ResolvesFrom, StopsFrom}
use Rattle.dn_flat.proofs.Shown.{levels_there, shows_is}
use Rattle.dn_view.specs.declared.part.FlatPart.{FlatPart}
use Rattle.dn_view.specs.declared.part.FlatPart.TheVariants.{Accepts, Stops}
use Rattle.dn_view.specs.Passes.{part_gives, outputs, outputs_by, names_go, seg_name, seg_passes, segs_pass, stops_of}
use Rattle.dn_view.specs.Through.{Through, ComesThrough, Newly, ComesNewly, IsPassedOn}
use Rattle.dn_view.proofs.Fitted.{IsSmall, small_unit}
use Rattle.dn_view.proofs.Pages.{power_below}
use Rattle.dn_view.proofs.Ways.{stop_step, resolves_through}

-- the name that a segment gives
pub seg_given : (s : Seg) (a : ℕ) (e : End) → seg_gives s a e ≡ true → (in_span s.span a ≡ true) × (◌≡◌ {A = Name} (name_of_end e) (seg_name s a))
seg_given s a e g =
    let b = and_parts (in_span s.span a) (nat_eq s.node e.node && nat_eq (s.base + (a - s.span.lo)) e.base) g in
    let d = and_parts (nat_eq s.node e.node) (nat_eq (s.base + (a - s.span.lo)) e.base) b.1 in
    (b.0, ap (λ n. record { node = n; addr = e.base }) (sym (eqb-true s.node e.node d.0)) ∙ ap (λ n. record { node = s.node; addr = n }) (sym (eqb-true (s.base + (a - s.span.lo)) e.base d.1)))

pub seg_gives_it : (s : Seg) (a : ℕ) → in_span s.span a ≡ true → seg_gives s a (end_of (seg_name s a)) ≡ true
seg_gives_it s a t =
    ap (λ b. b && (nat_eq s.node s.node && nat_eq (s.base + (a - s.span.lo)) (s.base + (a - s.span.lo)))) t
    ∙ ap (λ b. b && nat_eq (s.base + (a - s.span.lo)) (s.base + (a - s.span.lo))) (eq-eqb s.node s.node refl)
    ∙ eq-eqb (s.base + (a - s.span.lo)) (s.base + (a - s.span.lo)) refl

-- the layers of the stops of a node give its stops
pub stops_given : (net : List NodeDecl) (flats : FlatsView) → AreFlats net flats → (node : ℕ) → node < length net → (a : ℕ) (z : End) → a ≤ TOP → (levels_give (stops_of flats node) a z ≡ true) ↔ StopsFrom net node a z
stops_given net flats are node l a z low =
    let t = levels_there net flats are node l in
    let same : levels_give (stops_of flats node) a z ≡ levels_give t.0.stops a z = ap (λ o. levels_give (stops_in o) a z) t.1 in
    let is = t.2.stops a z low in
    ((λ e. is.0 (sym same ∙ e)), (λ h. same ∙ is.1 h))

module _ (net : List NodeDecl) (legal : IsLegalNet net) (h : Held) (held : AreHeld net h) (flats : FlatsView) (are : AreFlats net flats) where
  -- an output is in a node that is there, at an address
  output_there : (s : Name) (w : Name) → s.addr ≤ TOP → Member w (outputs net h s) → (w.node < length net) × (w.addr ≤ TOP)
  output_there s w low m = by (unit_at net s.node) refl m
    where
      by : (o : Option UnitPart) → unit_at net s.node ≡ o → Member w (outputs_by h s o) → (w.node < length net) × (w.addr ≤ TOP)
      by None e n = absurd n
      by (Some u) e n =
          let t : nat_le s.addr top ≡ true = le-leb s.addr top low in
          let stop : IsTrue (is_stop net s) = subst (λ o. IsTrue (is_stop_at s.addr o)) (sym e) t in
          let step : Member w (steps_under net h s) = stop_step net legal h s w stop m in
          let l : Led net s w u = led net legal h held s w u e (subst (λ o. Member w (steps_by_unit net h s o)) e step) in
          let small : IsSmall u = small_unit net s.node u legal.shapes e in
          let b : l.addr < 2 ^ u.reach = l.below in
          let p : 2 ^ u.reach ≤ 72057594037927936 = power_below u.reach small.reach in
          let a : l.addr ≡ w.addr = ap (λ (x : Name). x.addr) l.to in
          (ltb-true w.node (length net) (member_all (λ (x : Name). nat_lt x.node (length net)) (steps_under net h s) w (steps_under_there net h s legal.nodes.closed) step), omega arith)

  module _ (part : FlatPart) (T : ℕ → ℕ → End → Type 0) (next_is : (w : Name) (z : End) → w.node < length net → w.addr ≤ TOP → (part_gives part flats w.node w.addr z ≡ true) ↔ T w.node w.addr z) where
    abbrev next : ℕ → ℕ → End → Bool
    next = part_gives part flats

    low_name : (s : Seg) (a : ℕ) → in_span s.span a ≡ true → s.base + (a - s.span.lo) ≤ TOP
    low_name s a t =
        let b = and_parts (nat_le s.span.lo a) (nat_le a s.span.hi) t in
        let lo : s.span.lo ≤ a = leb-true s.span.lo a b.0 in
        let hi : a ≤ s.span.hi = leb-true a s.span.hi b.1 in
        let fits : s.base + (s.span.hi - s.span.lo) ≤ TOP = s.fits in
        omega arith

    -- what segments come to through a slot
    pub passed_is : (segs : List Seg) (a : ℕ) (z : End) → (segs_pass net h (part_gives part flats) segs a z ≡ true) ↔ ((s : End) × (segs_give segs a s ≡ true) × ((w : Name) × Member w (outputs net h (name_of_end s)) × T w.node w.addr z))
    passed_is segs a z = (into, back)
      where
        into : segs_pass net h (part_gives part flats) segs a z ≡ true → (s : End) × (segs_give segs a s ≡ true) × ((w : Name) × Member w (outputs net h (name_of_end s)) × T w.node w.addr z)
        into e =
            let r = any_member (λ (s : Seg). seg_passes net h (part_gives part flats) s a z) segs e in
            let s : Seg = r.0 in
            let b = and_parts (in_span s.span a) (names_go (part_gives part flats) (outputs net h (seg_name s a)) z) r.2 in
            let v = any_member (λ (w : Name). next w.node w.addr z) (outputs net h (seg_name s a)) b.1 in
            let o = output_there (seg_name s a) v.0 (low_name s a b.0) v.1 in
            (end_of (seg_name s a), member_any (λ (t : Seg). seg_gives t a (end_of (seg_name s a))) segs s r.1 (seg_gives_it s a b.0), (v.0, v.1, (next_is v.0 z o.0 o.1).0 v.2))

        back : ((s : End) × (segs_give segs a s ≡ true) × ((w : Name) × Member w (outputs net h (name_of_end s)) × T w.node w.addr z)) → segs_pass net h (part_gives part flats) segs a z ≡ true
        back r =
            let v = any_member (λ (t : Seg). seg_gives t a r.0) segs r.1 in
            let s : Seg = v.0 in
            let g = seg_given s a r.0 v.2 in
            let w : Name = r.2.0 in
            let m : Member w (outputs net h (seg_name s a)) = subst (λ (x : Name). Member w (outputs net h x)) g.1 r.2.1 in
            let o = output_there (seg_name s a) w (low_name s a g.0) m in
            let n : names_go (part_gives part flats) (outputs net h (seg_name s a)) z ≡ true = member_any (λ (w : Name). next w.node w.addr z) (outputs net h (seg_name s a)) w m ((next_is w z o.0 o.1).1 r.2.2) in
            member_any (λ (s : Seg). seg_passes net h (part_gives part flats) s a z) segs s v.1 (ap (λ b. b && names_go (part_gives part flats) (outputs net h (seg_name s a)) z) g.0 ∙ n)

  accepts_next : (w : Name) (z : End) → w.node < length net → w.addr ≤ TOP → (part_gives Accepts flats w.node w.addr z ≡ true) ↔ ResolvesFrom net w.node w.addr z
  accepts_next w z l low = shows_is net flats are w.node w.addr z l low

  stops_next : (w : Name) (z : End) → w.node < length net → w.addr ≤ TOP → (part_gives Stops flats w.node w.addr z ≡ true) ↔ StopsFrom net w.node w.addr z
  stops_next w z l low = stops_given net flats are w.node l w.addr z low

  pub passed_accepts : (segs : List Seg) (a : ℕ) (z : End) → (segs_pass net h (part_gives Accepts flats) segs a z ≡ true) ↔ ((s : End) × (segs_give segs a s ≡ true) × ((w : Name) × Member w (outputs net h (name_of_end s)) × Resolves net w (name_of_end z)))
  passed_accepts = passed_is Accepts (ResolvesFrom net) accepts_next

  pub passed_stops : (segs : List Seg) (a : ℕ) (z : End) → (segs_pass net h (part_gives Stops flats) segs a z ≡ true) ↔ ((s : End) × (segs_give segs a s ≡ true) × ((w : Name) × Member w (outputs net h (name_of_end s)) × StopsAt net w (name_of_end z)))
  passed_stops = passed_is Stops (StopsFrom net) stops_next

-- what is shown, and what the names of segments come to through at most so many units
abbrev pub Comes : List NodeDecl → Held → List Seg → List Seg → ℕ → ℕ → End → Type 0
Comes net h shown level n a z = (segs_give shown a z ≡ true) ⊎ ((s : End) × (segs_give level a s ≡ true) × Through net h n (name_of_end s) (name_of_end z))

-- one level more
pub comes_next : (net : List NodeDecl) → IsLegalNet net → (h : Held) → AreHeld net h → (flats : FlatsView) → AreFlats net flats → (shown shown' level level' : List Seg) (n : ℕ) (a : ℕ) (z : End) → segs_give shown' a z ≡ (segs_give shown a z || segs_pass net h (part_gives Accepts flats) level a z) → ((t : End) → segs_give level' a t ≡ segs_pass net h (part_gives Stops flats) level a t) → Comes net h shown level (suc n) a z ↔ Comes net h shown' level' n a z
comes_next net legal h held flats are shown shown' level level' n a z es el = (into, back)
  where
    more : segs_pass net h (part_gives Accepts flats) level a z ≡ true → segs_give shown' a z ≡ true
    more e = es ∙ or_right (segs_give shown a z) (segs_pass net h (part_gives Accepts flats) level a z) e

    into : Comes net h shown level (suc n) a z → Comes net h shown' level' n a z
    into (inl e) = inl (es ∙ or_left (segs_give shown a z) (segs_pass net h (part_gives Accepts flats) level a z) e)
    into (inr r) = by r.2.2
      where
        w : Name
        w = r.2.0

        by : (Resolves net w (name_of_end z) ⊎ ((t : Name) × StopsAt net w t × Through net h n t (name_of_end z))) → Comes net h shown' level' n a z
        by (inl v) = inl (more ((passed_accepts net legal h held flats are level a z).1 (r.0, r.1, (w, r.2.1, v))))
        by (inr v) = inr (end_of v.0, el (end_of v.0) ∙ (passed_stops net legal h held flats are level a (end_of v.0)).1 (r.0, r.1, (w, r.2.1, v.1)), v.2)

    back : Comes net h shown' level' n a z → Comes net h shown level (suc n) a z
    back (inl e) = by (or_cases (segs_give shown a z) (segs_pass net h (part_gives Accepts flats) level a z) (sym es ∙ e))
      where
        by : (segs_give shown a z ≡ true) ⊎ (segs_pass net h (part_gives Accepts flats) level a z ≡ true) → Comes net h shown level (suc n) a z
        by (inl f) = inl f
        by (inr f) = let r = (passed_accepts net legal h held flats are level a z).0 f in inr (r.0, r.1, (r.2.0, r.2.1, inl r.2.2))
    back (inr v) =
        let r = (passed_stops net legal h held flats are level a v.0).0 (sym (el v.0) ∙ v.1) in
        inr (r.0, r.1, (r.2.0, r.2.1, inr (name_of_end v.0, r.2.2, v.2)))

-- no level is left
pub comes_end : (net : List NodeDecl) (h : Held) (shown level : List Seg) (a : ℕ) (z : End) → Comes net h shown level 0 a z ↔ (segs_give shown a z ≡ true)
comes_end net h shown level a z = (into, (λ e. inl e))
  where
    into : Comes net h shown level 0 a z → segs_give shown a z ≡ true
    into (inl e) = e
    into (inr r) = absurd r.2

-- of three levels one fewer is left
pub one_less : (i : ℕ) → i < 3 → 3 - i ≡ suc (3 - (i + 1))
one_less i l = omega arith

pub both_turned : {A B : Type 0} → A ↔ B → B ↔ A
both_turned f = (f.1, f.0)

-- what is shown at the end
pub comes_whole : (net : List NodeDecl) (h : Held) (shown level : List Seg) (a : ℕ) (z : End) → Comes net h shown level 3 a z ↔ ((segs_give shown a z ≡ true) ⊎ ((s : End) × (segs_give level a s ≡ true) × ComesThrough net h (name_of_end s) (name_of_end z)))
unfolding ComesThrough
comes_whole net h shown level a z = ((λ x. x), (λ x. x))

-- what is passed on by fresh records, and then by all
pub passed_on : (net : List NodeDecl) → IsLegalNet net → (fresh all : Held) → AreHeld net fresh → AreHeld net all → (flats : FlatsView) → AreFlats net flats → (old mid new : Bool) (stops segs : List Seg) (a : ℕ) (z : End) → mid ≡ (old || segs_pass net fresh (part_gives Accepts flats) segs a z) → ((t : End) → segs_give stops a t ≡ segs_pass net fresh (part_gives Stops flats) segs a t) → ((new ≡ true) ↔ ((mid ≡ true) ⊎ ((t : End) × (segs_give stops a t ≡ true) × ComesThrough net all (name_of_end t) (name_of_end z)))) → (new ≡ true) ↔ ((old ≡ true) ⊎ ((s : End) × (segs_give segs a s ≡ true) × IsPassedOn net fresh all (name_of_end s) (name_of_end z)))
unfolding IsPassedOn
passed_on net legal fresh all held_fresh held_all flats are old mid new stops segs a z em es en = (into, back)
  where
    by_accepts : (segs_pass net fresh (part_gives Accepts flats) segs a z ≡ true) ↔ ((s : End) × (segs_give segs a s ≡ true) × ((w : Name) × Member w (outputs net fresh (name_of_end s)) × Resolves net w (name_of_end z)))
    by_accepts = passed_accepts net legal fresh held_fresh flats are segs a z

    by_stops : (t : End) → (segs_pass net fresh (part_gives Stops flats) segs a t ≡ true) ↔ ((s : End) × (segs_give segs a s ≡ true) × ((w : Name) × Member w (outputs net fresh (name_of_end s)) × StopsAt net w (name_of_end t)))
    by_stops t = passed_stops net legal fresh held_fresh flats are segs a t

    into : new ≡ true → (old ≡ true) ⊎ ((s : End) × (segs_give segs a s ≡ true) × ((w : Name) × Member w (outputs net fresh (name_of_end s)) × ResolvesUnder net all w (name_of_end z)))
    into e = by (en.0 e)
      where
        at_once : (old ≡ true) ⊎ (segs_pass net fresh (part_gives Accepts flats) segs a z ≡ true) → (old ≡ true) ⊎ ((s : End) × (segs_give segs a s ≡ true) × ((w : Name) × Member w (outputs net fresh (name_of_end s)) × ResolvesUnder net all w (name_of_end z)))
        at_once (inl o) = inl o
        at_once (inr p) = let r = by_accepts.0 p in inr (r.0, r.1, (r.2.0, r.2.1, (resolves_through net legal all held_all r.2.0 (name_of_end z)).1 (inl r.2.2)))

        by : ((mid ≡ true) ⊎ ((t : End) × (segs_give stops a t ≡ true) × ComesThrough net all (name_of_end t) (name_of_end z))) → (old ≡ true) ⊎ ((s : End) × (segs_give segs a s ≡ true) × ((w : Name) × Member w (outputs net fresh (name_of_end s)) × ResolvesUnder net all w (name_of_end z)))
        by (inl m) = at_once (or_cases old (segs_pass net fresh (part_gives Accepts flats) segs a z) (sym em ∙ m))
        by (inr k) =
            let r = (by_stops k.0).0 (sym (es k.0) ∙ k.1) in
            inr (r.0, r.1, (r.2.0, r.2.1, (resolves_through net legal all held_all r.2.0 (name_of_end z)).1 (inr (name_of_end k.0, r.2.2, k.2))))

    back : ((old ≡ true) ⊎ ((s : End) × (segs_give segs a s ≡ true) × ((w : Name) × Member w (outputs net fresh (name_of_end s)) × ResolvesUnder net all w (name_of_end z)))) → new ≡ true
    back (inl o) = en.1 (inl (em ∙ or_left old (segs_pass net fresh (part_gives Accepts flats) segs a z) o))
    back (inr k) = by ((resolves_through net legal all held_all k.2.0 (name_of_end z)).0 k.2.2)
      where
        by : (Resolves net k.2.0 (name_of_end z) ⊎ ((t : Name) × StopsAt net k.2.0 t × ComesThrough net all t (name_of_end z))) → new ≡ true
        by (inl r) = en.1 (inl (em ∙ or_right old (segs_pass net fresh (part_gives Accepts flats) segs a z) (by_accepts.1 (k.0, k.1, (k.2.0, k.2.1, r)))))
        by (inr r) = en.1 (inr (end_of r.0, es (end_of r.0) ∙ (by_stops (end_of r.0)).1 (k.0, k.1, (k.2.0, k.2.1, r.1)), r.2))

pub on_is : (net : List NodeDecl) (fresh all : Held) (s z : Name) → IsPassedOn net fresh all s z ↔ ((w : Name) × Member w (outputs net fresh s) × ResolvesUnder net all w z)
unfolding IsPassedOn
on_is net fresh all s z = ((λ x. x), (λ x. x))

-- what is shown, and what the names of segments come to newly after fewer than so many of the first records
abbrev pub NewlyComes : List NodeDecl → Held → Held → Held → List Seg → List Seg → ℕ → ℕ → End → Type 0
NewlyComes net h fresh all shown level n a z = (segs_give shown a z ≡ true) ⊎ ((s : End) × (segs_give level a s ≡ true) × Newly net h fresh all n (name_of_end s) (name_of_end z))

-- one level more, of which those names are kept at least that go on through the first records
pub newly_next : (net : List NodeDecl) → IsLegalNet net → (h fresh all : Held) → AreHeld net h → (flats : FlatsView) → AreFlats net flats → (shown shown' level rest level' : List Seg) (n : ℕ) (a : ℕ) (z : End) → ((segs_give shown' a z ≡ true) ↔ ((segs_give shown a z ≡ true) ⊎ ((s : End) × (segs_give level a s ≡ true) × IsPassedOn net fresh all (name_of_end s) (name_of_end z)))) → ((s : End) → segs_give rest a s ≡ true → segs_give level a s ≡ true) → ((s : End) → segs_give level a s ≡ true → ((w : Name) × Member w (outputs net h (name_of_end s)) × ((t : Name) × StopsAt net w t × Newly net h fresh all n t (name_of_end z))) → segs_give rest a s ≡ true) → ((t : End) → segs_give level' a t ≡ segs_pass net h (part_gives Stops flats) rest a t) → NewlyComes net h fresh all shown level (suc n) a z ↔ NewlyComes net h fresh all shown' level' n a z
newly_next net legal h fresh all held flats are shown shown' level rest level' n a z es given met el = (into, back)
  where
    into : NewlyComes net h fresh all shown level (suc n) a z → NewlyComes net h fresh all shown' level' n a z
    into (inl e) = inl (es.1 (inl e))
    into (inr r) = by r.2
      where
        by : ((w : Name) × Member w (outputs net fresh (name_of_end r.0)) × ResolvesUnder net all w (name_of_end z)) ⊎ ((w : Name) × Member w (outputs net h (name_of_end r.0)) × ((t : Name) × StopsAt net w t × Newly net h fresh all n t (name_of_end z))) → NewlyComes net h fresh all shown' level' n a z
        by (inl k) = inl (es.1 (inr (r.0, r.1, (on_is net fresh all (name_of_end r.0) (name_of_end z)).1 k)))
        by (inr k) = inr (end_of k.2.0, el (end_of k.2.0) ∙ (passed_stops net legal h held flats are rest a (end_of k.2.0)).1 (r.0, met r.0 r.1 k, (k.0, k.1, k.2.1)), k.2.2)

    back : NewlyComes net h fresh all shown' level' n a z → NewlyComes net h fresh all shown level (suc n) a z
    back (inl e) = elim (es.0 e) [ inl k ↦ inl k | inr k ↦ inr (k.0, k.1, inl ((on_is net fresh all (name_of_end k.0) (name_of_end z)).0 k.2)) ]
    back (inr v) =
        let r = (passed_stops net legal h held flats are rest a v.0).0 (sym (el v.0) ∙ v.1) in
        inr (r.0, given r.0 r.1, inr (r.2.0, r.2.1, (name_of_end v.0, r.2.2, v.2)))

pub newly_end : (net : List NodeDecl) (h fresh all : Held) (shown level : List Seg) (a : ℕ) (z : End) → NewlyComes net h fresh all shown level 0 a z ↔ (segs_give shown a z ≡ true)
newly_end net h fresh all shown level a z = (into, (λ e. inl e))
  where
    into : NewlyComes net h fresh all shown level 0 a z → segs_give shown a z ≡ true
    into (inl e) = e
    into (inr r) = absurd r.2

pub newly_whole : (net : List NodeDecl) (h fresh all : Held) (shown level : List Seg) (a : ℕ) (z : End) → shown ≡ [] → NewlyComes net h fresh all shown level 3 a z ↔ ((s : End) × (segs_give level a s ≡ true) × ComesNewly net h fresh all (name_of_end s) (name_of_end z))
unfolding ComesNewly
newly_whole net h fresh all shown level a z none = (into, (λ r. inr r))
  where
    into : NewlyComes net h fresh all shown level 3 a z → (s : End) × (segs_give level a s ≡ true) × Newly net h fresh all 3 (name_of_end s) (name_of_end z)
    into (inl e) = absurd (false≢true (ap (λ (l : List Seg). segs_give l a z) (sym none) ∙ e))
    into (inr r) = r
