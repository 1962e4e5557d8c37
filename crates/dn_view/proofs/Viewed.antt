-- What the segments of a node show.
use Rattle.std.proofs.Common.{◌≡◌, ℕ, ◌-◌, ◌/◌, ◌^◌, ◌<◌, ◌≤◌, ◌==◌, ◌⊎◌, ◌↔◌, inl, inr, Bool, true, false, List, [], ◌∷◌, map, slice_get, Option, Some, None, IfSome, IsTrue, refl, sym, ap, subst, arith, ◌∙◌, length}
use Rattle.dn_interval.specs.declared.row.End.{End}
use Rattle.dn_interval.specs.declared.row.Row.{Row}
use Rattle.dn_interval.specs.declared.row.Seg.{Seg}
use Rattle.dn_interval.specs.declared.span.TheConstants.{TOP}
use Rattle.dn_interval.specs.Rows.{Member as MemberEnd, further_end, AreNormal, GivenBy, HasEnds, SegmentsGive, ends_within}
use Rattle.dn_interval.specs.Strands.{segs_give}
use Rattle.dn_interval.proofs.Membership.{in_from}
use Rattle.dn_net.specs.declared.node.Name.{Name}
use Rattle.dn_net.specs.declared.node.NodeDecl.{NodeDecl}
use Rattle.dn_net.specs.declared.node.Unit.{Unit as UnitPart}
use Rattle.dn_net.specs.Chain.{Member}
use Rattle.dn_net.specs.Decode.{Resolves, StopsAt, unit_at}
use Rattle.dn_net.specs.Legal.{IsLegalNet}
use Rattle.dn_kind.specs.declared.rights.Access.{Access}
use Rattle.dn_kind.specs.Tables.{Held, AreHeld, allowing, output, record_allowing}
use Rattle.dn_walk.specs.Ends.{end_of, name_of_end}
use Rattle.dn_flat.specs.declared.flat.Flat.{Flat}
use Rattle.dn_flat.specs.declared.levels.Levels.{Levels}
use Rattle.dn_flat.specs.Levels.{AreFlats, FlatsView, is_among, levels_give, shows, stops_in, units_in}
use Rattle.dn_flat.specs.Stages.{IsFlat}
use Rattle.dn_flat.specs.Views.{StopsFrom}
use Rattle.dn_flat.proofs.Shown.{levels_there, shows_is}
use Rattle.dn_flat.proofs.Sums.{normal_of}
use Rattle.dn_flat.proofs.There.{accepted_is_there, names_are_there}
use Rattle.dn_view.specs.Passes.{outputs_by, stops_of}
use Rattle.dn_view.specs.Records.{HoldsNone}
use Rattle.dn_view.specs.Through.{ComesThrough}
use Rattle.dn_view.specs.Views.{AreViewed, ReachesUnit, ResolvesFromUnder}
use Rattle.dn_view.proofs.Passed.{stops_given}
use Rattle.dn_view.proofs.Ways.{resolves_fixed, resolves_through}

-- what a node shows, and its stops, as tests of segments
pub node_accepts : (net : List NodeDecl) (flats : FlatsView) → AreFlats net flats → (node : ℕ) → node < length flats.nodes → (gives : Bool) (a : ℕ) (z : End) → a ≤ TOP → gives ≡ shows flats node a z → (gives ≡ true) ↔ Resolves net (record { node = node; addr = a }) (name_of_end z)
node_accepts net flats are node l gives a z low e =
    let is = shows_is net flats are node a z (subst (λ n. node < n) are.every l) low in
    ((λ g. is.0 (sym e ∙ g)), (λ h. e ∙ is.1 h))

pub node_stops : (net : List NodeDecl) (flats : FlatsView) → AreFlats net flats → (node : ℕ) → node < length flats.nodes → (gives : Bool) (a : ℕ) (z : End) → a ≤ TOP → gives ≡ levels_give (stops_of flats node) a z → (gives ≡ true) ↔ StopsAt net (record { node = node; addr = a }) (name_of_end z)
node_stops net flats are node l gives a z low e =
    let is = stops_given net flats are node (subst (λ n. node < n) are.every l) a z low in
    ((λ g. is.0 (sym e ∙ g)), (λ h. e ∙ is.1 h))

-- the units of a node's stops are listed
pub unit_listed : (net : List NodeDecl) (flats : FlatsView) → AreFlats net flats → (node : ℕ) → node < length flats.nodes → (a : ℕ) (z : End) → a ≤ TOP → levels_give (stops_of flats node) a z ≡ true → is_among z.node (units_in (slice_get flats.nodes node)) ≡ true
unit_listed net flats are node l a z low given =
    let t = levels_there net flats are node (subst (λ n. node < n) are.every l) in
    subst (λ (o : Option Levels). is_among z.node (units_in o) ≡ true) (sym t.1) ((are.each node t.0 t.1).units a z low (ap (λ (o : Option Levels). levels_give (stops_in o) a z) (sym t.1) ∙ given))

-- what stands in a unit without records comes to nothing through it
pub none_through : (net : List NodeDecl) (h : Held) (access : Access) (s z : Name) → HoldsNone net h s.node → ComesThrough net (allowing access h) s z → ⊥
unfolding ComesThrough
none_through net h access s z none k = by (unit_at net s.node) none k.1
  where
    by : (o : Option UnitPart) → IfSome o (λ u. (slot : ℕ) → h s.node slot ≡ None) → Member k.0 (outputs_by (allowing access h) s o) → ⊥
    by None e m = absurd m
    by (Some u) e m = absurd (subst (λ r. Member k.0 (output u (record_allowing access r) s.addr)) (e (s.addr / 2 ^ u.page)) m)

-- what goes on by some stops does so by the same stops told otherwise
pub by_same : {P Q : Type 0} {C : End → Type 0} (gives leads : End → Bool) → ((s : End) → gives s ≡ leads s) → P ↔ (Q ⊎ ((s : End) × IsTrue (gives s) × C s)) → P ↔ (Q ⊎ ((s : End) × IsTrue (leads s) × C s))
by_same gives leads same is = ((λ p. elim (is.0 p) [ inl q ↦ inl q | inr k ↦ inr (k.0, sym (same k.0) ∙ k.1, k.2) ]), (λ r. is.1 (elim r [ inl q ↦ inl q | inr k ↦ inr (k.0, same k.0 ∙ k.1, k.2) ])))

-- what is shown of an address of a node under records is what it resolves to
pub seen_at : (net : List NodeDecl) → IsLegalNet net → (h : Held) → AreHeld net h → (flats : FlatsView) → AreFlats net flats → (node : ℕ) → node < length flats.nodes → (a : ℕ) → a ≤ TOP → (accepts stops shown : End → Bool)
    → ((z : End) → accepts z ≡ shows flats node a z)
    → ((z : End) → stops z ≡ levels_give (stops_of flats node) a z)
    → ((z : End) → IsTrue (shown z) ↔ (IsTrue (accepts z) ⊎ ((s : End) × IsTrue (stops s) × ComesThrough net h (name_of_end s) (name_of_end z))))
    → (z : End) → (shown z ≡ true) ↔ ResolvesFromUnder net h node a z
seen_at net legal h held flats are node l a low accepts stops shown ea es is z = (into, back)
  where
    x : Name
    x = record { node = node; addr = a }

    by_accepts : (accepts z ≡ true) ↔ Resolves net x (name_of_end z)
    by_accepts = node_accepts net flats are node l (accepts z) a z low (ea z)

    by_stops : (s : End) → (stops s ≡ true) ↔ StopsAt net x (name_of_end s)
    by_stops s = node_stops net flats are node l (stops s) a s low (es s)

    into : shown z ≡ true → ResolvesFromUnder net h node a z
    into e = (resolves_through net legal h held x (name_of_end z)).1 (elim ((is z).0 e) [ inl r ↦ inl (by_accepts.0 r) | inr r ↦ inr (name_of_end r.0, (by_stops r.0).0 r.1, r.2) ])

    back : ResolvesFromUnder net h node a z → shown z ≡ true
    back r = (is z).1 (elim ((resolves_through net legal h held x (name_of_end z)).0 r) [ inl v ↦ inl (by_accepts.1 v) | inr v ↦ inr (end_of v.0, (by_stops (end_of v.0)).1 v.1, v.2) ])

-- so it is for each of its addresses
pub viewed : (net : List NodeDecl) → IsLegalNet net → (h : Held) → AreHeld net h → (flats : FlatsView) → AreFlats net flats → (node : ℕ) → node < length flats.nodes → (accepts shown : List Seg)
    → ((a : ℕ) (z : End) → segs_give accepts a z ≡ shows flats node a z)
    → ((a : ℕ) (z : End) → a ≤ TOP → IsTrue (segs_give shown a z) ↔ (IsTrue (segs_give accepts a z) ⊎ ((s : End) × IsTrue (levels_give (stops_of flats node) a s) × ComesThrough net h (name_of_end s) (name_of_end z))))
    → (a : ℕ) (z : End) → a ≤ TOP → (segs_give shown a z ≡ true) ↔ ResolvesFromUnder net h node a z
viewed net legal h held flats are node l accepts shown ea is a z low =
    seen_at net legal h held flats are node l a low (segs_give accepts a) (levels_give (stops_of flats node) a) (segs_give shown a) (ea a) (λ y. refl) (λ y. is a y low) z

-- what a node that reaches no unit accepts is what its addresses resolve to under any records
pub fixed_rows : (net : List NodeDecl) → IsLegalNet net → (node : ℕ) (flat : Flat) → IsFlat net node flat → flat.stops ≡ [] → (h : Held) → AreViewed net h node flat.accepts
fixed_rows net legal node flat is none h = record {
  apart = is.accepts.apart;
  exact = λ a y low.
      let x : Name = record { node = node; addr = a } in
      let no_stop : (t : Name) → StopsAt net x t → ⊥ = λ t s. subst (λ rows. GivenBy rows a (end_of t)) none ((is.stops.exact a (end_of t) low).0 s) in
      let same = resolves_fixed net legal h x (name_of_end y) no_stop in
      ((λ r. (is.accepts.exact a y low).0 (same.0 r)), (λ g. same.1 ((is.accepts.exact a y low).1 g)));
}

-- a node reaches a unit, where it has a row of stops
pub unit_reached : (net : List NodeDecl) (node : ℕ) (rows : List Row) → AreNormal (StopsFrom net node) rows → (length rows == 0) ≡ false → ReachesUnit net node
unit_reached net node [] normal some = cc
unit_reached net node (r ∷ rest) normal some = by r.ends refl normal.apart.1
  where
    by : (ends : List End) → r.ends ≡ ends → HasEnds ends → ReachesUnit net node
    by [] e has = absurd has
    by (x ∷ xs) e has =
        let lo : ℕ = r.span.lo in
        let first : End = further_end (lo - lo) x in
        let low : lo ≤ TOP = omega (arith, r.span.ordered, r.span.within) in
        let one : MemberEnd first (map (further_end (lo - lo)) r.ends) = subst (λ es. MemberEnd first (map (further_end (lo - lo)) es)) (sym e) (inl refl) in
        (lo, first, low, (normal.exact lo first low).1 (inl (in_from r.span lo (omega arith) r.span.ordered, one)))

pub view_rows : (net : List NodeDecl) (h : Held) (node : ℕ) (shown : List Seg) (rows : List Row) → ((a : ℕ) (z : End) → a ≤ TOP → (segs_give shown a z ≡ true) ↔ ResolvesFromUnder net h node a z) → AreNormal (SegmentsGive shown) rows → AreNormal (ResolvesFromUnder net h node) rows
view_rows net h node shown rows same n = normal_of (ResolvesFromUnder net h node) shown rows same n

pub view_within : (net : List NodeDecl) (h : Held) (node : ℕ) (rows : List Row) → AreNormal (ResolvesFromUnder net h node) rows → IsTrue (ends_within (length net) rows)
view_within net h node rows n = names_are_there (length net) (ResolvesFromUnder net h node) rows n (λ a y r. accepted_is_there net (name_of_end y) r.0)
