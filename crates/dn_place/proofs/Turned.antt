-- The addresses of an agent that reach the names of a unit, and the placements that stand there.
use Rattle.std.proofs.Common.{◌≡◌, ℕ, ◌+◌, ◌-◌, ◌<◌, ◌≤◌, inl, inr, ◌↔◌, Bool, true, false, ◌&&◌, ◌||◌, nat_eq, List, [], ◌∷◌, ◌++◌, length, map, slice_get, Option, Some, None, IfNone, IsTrue, refl, sym, ap, ◌∙◌, subst, arith, eqb-true, eq-eqb, leb}
use Rattle.std.specs.List.{Contains, list_any}
use Rattle.std.proofs.lemmas.List.Folds.{list_any-append}
use Rattle.std.proofs.lemmas.Bool.{false≢true, and_parts, and_from, le-leb, leb-true, or_cases}
use Rattle.dn_base.proofs.Booleans.{same_tests}
use Rattle.dn_interval.specs.declared.row.End.{End}
use Rattle.dn_interval.specs.declared.row.Row.{Row}
use Rattle.dn_interval.specs.declared.row.Seg.{Seg}
use Rattle.dn_interval.specs.declared.span.TheConstants.{TOP}
use Rattle.dn_interval.specs.Rows.{Member, further_end, AreNormal, GivenBy, SegmentsGive}
use Rattle.dn_interval.specs.Spans.{in_span}
use Rattle.dn_interval.specs.Strands.{seg_gives, segs_give}
use Rattle.dn_interval.proofs.Membership.{in_from, lo_of, hi_of}
use Rattle.dn_interval.proofs.Names.{segs_from, segs_to}
use Rattle.dn_interval.proofs.Normal.{normal_like}
use Rattle.dn_net.specs.declared.node.Name.{Name}
use Rattle.dn_net.specs.declared.node.NodeDecl.{NodeDecl}
use Rattle.dn_net.specs.declared.node.Unit.{Unit as UnitPart}
use Rattle.dn_net.specs.Decode.{top, is_stop_at, unit_at, StopsAt}
use Rattle.dn_flat.specs.Levels.{AreFlats, FlatsView, levels_give, stops_in}
use Rattle.dn_flat.specs.Views.{StopsFrom}
use Rattle.dn_flat.proofs.Shown.{stops_is}
use Rattle.dn_tables.specs.declared.placement.Hop.{Hop}
use Rattle.dn_tables.specs.Placement.{Place}
use Rattle.dn_placement.specs.declared.request.Request.{Request}
use Rattle.dn_placement.specs.Order.{IsAt, IsSuited}
use Rattle.dn_placement.specs.Placement.{Meets, name_on}
use Rattle.dn_placement.proofs.Keys.{append_none}
use Rattle.dn_place.specs.declared.preimages.Way.{Way}
use Rattle.dn_place.specs.Candidates.{IsAddressed, IsChosen, IsFirstOrNone, IsUnder, NoneUnder, key_of_hops, to_address}
use Rattle.dn_place.specs.Preimages.{IsPreimage, IsWayBack, IsWayTo, LeadsAlone}
use Rattle.dn_place.specs.Rows.{GivesOnly, GivesStops, InRow, wanted_name}
use Rattle.dn_place.specs.Sought.{IsSearchReady, Sought}
use Rattle.dn_place.proofs.Agents.{agent_goes, v_of}
use Rattle.dn_place.proofs.Levels.{only_number}
use Rattle.dn_place.proofs.Marked.{given_there, none_given}
use Rattle.dn_place.proofs.Stretches.{row_has}
use Rattle.dn_place.proofs.Wholes.{whole}

-- a segment, turned round, gives to each of its names the address that has it
pub turned_gives : (s : Seg) (node from to lo x : ℕ) (z : End) → from ≡ s.base → to ≡ s.base + (s.span.hi - s.span.lo) → lo ≡ s.span.lo → ((leb from x && leb x to) && (nat_eq node z.node && nat_eq (lo + (x - from)) z.base)) ≡ (nat_eq node z.node && seg_gives s z.base (record { node = s.node; base = x }))
turned_gives s node from to lo x z f t l = same_tests ((leb from x && leb x to) && (nat_eq node z.node && nat_eq (lo + (x - from)) z.base)) (nat_eq node z.node && seg_gives s z.base (record { node = s.node; base = x })) there back
  where
    there : ((leb from x && leb x to) && (nat_eq node z.node && nat_eq (lo + (x - from)) z.base)) ≡ true → (nat_eq node z.node && seg_gives s z.base (record { node = s.node; base = x })) ≡ true
    there e =
        let p = and_parts (leb from x && leb x to) (nat_eq node z.node && nat_eq (lo + (x - from)) z.base) e in
        let o = and_parts (leb from x) (leb x to) p.0 in
        let q = and_parts (nat_eq node z.node) (nat_eq (lo + (x - from)) z.base) p.1 in
        let low : from ≤ x = leb-true from x o.0 in
        let high : x ≤ to = leb-true x to o.1 in
        let at : lo + (x - from) ≡ z.base = eqb-true (lo + (x - from)) z.base q.1 in
        let order : s.span.lo ≤ s.span.hi = s.span.ordered in
        and_from (nat_eq node z.node) (seg_gives s z.base (record { node = s.node; base = x })) q.0
        (and_from (in_span s.span z.base) (nat_eq s.node s.node && nat_eq (s.base + (z.base - s.span.lo)) x)
        (in_from s.span z.base (omega (arith, at, l)) (omega (arith, at, f, t, l, low, high, order)))
        (and_from (nat_eq s.node s.node) (nat_eq (s.base + (z.base - s.span.lo)) x) (eq-eqb s.node s.node refl) (eq-eqb (s.base + (z.base - s.span.lo)) x (omega (arith, at, f, l, low)))))

    back : (nat_eq node z.node && seg_gives s z.base (record { node = s.node; base = x })) ≡ true → ((leb from x && leb x to) && (nat_eq node z.node && nat_eq (lo + (x - from)) z.base)) ≡ true
    back e =
        let p = and_parts (nat_eq node z.node) (seg_gives s z.base (record { node = s.node; base = x })) e in
        let q = and_parts (in_span s.span z.base) (nat_eq s.node s.node && nat_eq (s.base + (z.base - s.span.lo)) x) p.1 in
        let r = and_parts (nat_eq s.node s.node) (nat_eq (s.base + (z.base - s.span.lo)) x) q.1 in
        let low : s.span.lo ≤ z.base = lo_of s.span z.base q.0 in
        let high : z.base ≤ s.span.hi = hi_of s.span z.base q.0 in
        let at : s.base + (z.base - s.span.lo) ≡ x = eqb-true (s.base + (z.base - s.span.lo)) x r.1 in
        and_from (leb from x && leb x to) (nat_eq node z.node && nat_eq (lo + (x - from)) z.base)
        (and_from (leb from x) (leb x to) (le-leb from x (omega (arith, at, f))) (le-leb x to (omega (arith, at, t, low, high))))
        (and_from (nat_eq node z.node) (nat_eq (lo + (x - from)) z.base) p.0 (eq-eqb (lo + (x - from)) z.base (omega (arith, at, f, l, low))))

-- one of another unit gives it no name
other_unit : (s : Seg) (node unit x : ℕ) (z : End) → (s.node ≡ unit → ⊥) → (nat_eq node z.node && seg_gives s z.base (record { node = unit; base = x })) ≡ false
other_unit s node unit x z other = same_tests (nat_eq node z.node && seg_gives s z.base (record { node = unit; base = x })) false never (λ e. absurd (false≢true e))
  where
    never : (nat_eq node z.node && seg_gives s z.base (record { node = unit; base = x })) ≡ true → false ≡ true
    never e =
        let p = and_parts (nat_eq node z.node) (seg_gives s z.base (record { node = unit; base = x })) e in
        let q = and_parts (in_span s.span z.base) (nat_eq s.node unit && nat_eq (s.base + (z.base - s.span.lo)) x) p.1 in
        let r = and_parts (nat_eq s.node unit) (nat_eq (s.base + (z.base - s.span.lo)) x) q.1 in
        absurd (other (eqb-true s.node unit r.0))

-- one more segment, turned round
pub one_turned : (old : List Seg) (s t : Seg) (node unit x : ℕ) (z : End) → s.node ≡ unit → seg_gives t x z ≡ (nat_eq node z.node && seg_gives s z.base (record { node = s.node; base = x })) → segs_give (old ++ t ∷ []) x z ≡ (segs_give old x z || (nat_eq node z.node && seg_gives s z.base (record { node = unit; base = x })))
one_turned old s t node unit x z same e =
    list_any-append (λ (k : Seg). seg_gives k x z) old (t ∷ [])
    ∙ ap (λ b. segs_give old x z || b) (only (seg_gives t x z) ∙ e ∙ ap (λ n. nat_eq node z.node && seg_gives s z.base (record { node = n; base = x })) same)
  where
    only : (b : Bool) → (b || false) ≡ b
    only true = refl
    only false = refl

-- and none more, where it is of another unit
pub none_turned : (old : List Seg) (s : Seg) (node unit x : ℕ) (z : End) → (s.node ≡ unit → ⊥) → segs_give old x z ≡ (segs_give old x z || (nat_eq node z.node && seg_gives s z.base (record { node = unit; base = x })))
none_turned old s node unit x z other = sym (ap (λ b. segs_give old x z || b) (other_unit s node unit x z other) ∙ only (segs_give old x z))
  where
    only : (b : Bool) → (b || false) ≡ b
    only true = refl
    only false = refl

-- what gives a name to an address gives it to one at or below the last
segs_low : (segs : List Seg) (a : ℕ) (z : End) → segs_give segs a z ≡ true → a ≤ TOP
segs_low [] a z e = absurd (false≢true e)
segs_low (s ∷ segs) a z e = elim (or_cases (seg_gives s a z) (segs_give segs a z) e) [
  | inl g ↦ (let h = hi_of s.span a (and_parts (in_span s.span a) (nat_eq s.node z.node && nat_eq (s.base + (a - s.span.lo)) z.base) g).0 in omega (arith, h, s.span.within))
  | inr g ↦ segs_low segs a z g
]

-- what the addresses of a node come to, as a segment of all of them tells it
pub stops_told : (net : List NodeDecl) (flats : FlatsView) → AreFlats net flats → (node : ℕ) → node < length flats.nodes → (old new : List Seg) → old ≡ [] → ((a : ℕ) (z : End) → segs_give new a z ≡ (segs_give old a z || ((leb 0 a && leb a TOP) && levels_give (stops_in (slice_get flats.nodes node)) (0 + (a - 0)) z))) → (a : ℕ) (z : End) → a ≤ TOP → (segs_give new a z ≡ true) ↔ StopsFrom net node a z
stops_told net flats are node there old new none adds a z low = ((λ e. told.0 (sym same ∙ e)), (λ st. same ∙ told.1 st))
  where
    told : (levels_give (stops_in (slice_get flats.nodes node)) a z ≡ true) ↔ StopsFrom net node a z
    told = stops_is net flats are node a z (omega (arith, there, are.every)) low

    same : segs_give new a z ≡ levels_give (stops_in (slice_get flats.nodes node)) a z
    same =
        adds a z
        ∙ ap (λ (l : List Seg). segs_give l a z || ((leb 0 a && leb a TOP) && levels_give (stops_in (slice_get flats.nodes node)) (0 + (a - 0)) z)) none
        ∙ ap (λ t. t && levels_give (stops_in (slice_get flats.nodes node)) (0 + (a - 0)) z) (and_from (leb 0 a) (leb a TOP) (le-leb 0 a (omega arith)) (le-leb a TOP low))
        ∙ ap (λ n. levels_give (stops_in (slice_get flats.nodes node)) n z) (let k : 0 + (a - 0) ≡ a = omega arith in k)

-- the stops of an agent, turned round, are the preimages
pub preimages_normal : (net : List NodeDecl) (agent unit : ℕ) (segs back : List Seg) (rows : List Row) → ((a : ℕ) (z : End) → a ≤ TOP → (segs_give segs a z ≡ true) ↔ StopsFrom net agent a z) → ((x : ℕ) (z : End) → segs_give back x z ≡ (nat_eq agent z.node && segs_give segs z.base (record { node = unit; base = x }))) → AreNormal (SegmentsGive back) rows → AreNormal (IsPreimage net agent unit) rows
preimages_normal net agent unit segs back rows stops turned n = normal_like (SegmentsGive back) (IsPreimage net agent unit) rows (λ x z l. (there x z, from x z)) n
  where
    there : (x : ℕ) (z : End) → SegmentsGive back x z → IsPreimage net agent unit x z
    there x z g =
        let p = and_parts (nat_eq agent z.node) (segs_give segs z.base (record { node = unit; base = x })) (sym (turned x z) ∙ segs_from back x z g) in
        let low : z.base ≤ TOP = segs_low segs z.base (record { node = unit; base = x }) p.1 in
        record { node = sym (eqb-true agent z.node p.0); low = low; stop = (stops z.base (record { node = unit; base = x }) low).0 p.1 }

    from : (x : ℕ) (z : End) → IsPreimage net agent unit x z → SegmentsGive back x z
    from x z p = segs_to back x z (turned x z ∙ and_from (nat_eq agent z.node) (segs_give segs z.base (record { node = unit; base = x })) (eq-eqb agent z.node (sym p.node)) ((stops z.base (record { node = unit; base = x }) p.low).1 p.stop))

-- a row of preimages that gives each of so many names one address is a way there
pub turned_way : (net : List NodeDecl) (agent unit x size : ℕ) (rows : List Row) (r : Row) (way : Way) → AreNormal (IsPreimage net agent unit) rows → Contains rows r → 1 ≤ size → IsWayBack r x size way → IsWayTo net agent (record { node = unit; base = x }) size way
turned_way net agent unit x size rows r way n c some t = record {
  from = omega (arith, t.at);
  to = omega (arith, t.at, t.last, t.from, t.to);
  within = t.within;
  base = r.span.lo;
  wanted = omega (arith, t.at, t.from);
  stops = stops;
}
  where
    stops : (a : ℕ) → way.first ≤ a → a ≤ way.last → StopsFrom net agent a (record { node = unit; base = r.span.lo + (a - way.first) })
    stops a from to = ((n.exact y z low).1 (given_there rows r y z c (in_from r.span y (omega arith) high) member)).stop
      where
        y : ℕ
        y = r.span.lo + (a - way.first)

        z : End
        z = record { node = t.node; base = a }

        high : r.span.lo + (a - way.first) ≤ r.span.hi
        high = let order : r.span.lo ≤ r.span.hi = r.span.ordered in omega (arith, to, t.last, from, order)

        low : r.span.lo + (a - way.first) ≤ TOP
        low = let w : r.span.hi ≤ TOP = r.span.within in omega (arith, high, w)

        moved : (m : ℕ) → m ≡ a → ◌≡◌ {A = End} (record { node = t.node; base = m }) (record { node = t.node; base = a })
        moved m e = ap (λ (k : ℕ). record { node = t.node; base = k }) e

        member : Member (record { node = t.node; base = a }) (map (further_end (y - r.span.lo)) r.ends)
        member = subst (λ (es : List End). Member (record { node = t.node; base = a }) (map (further_end (y - r.span.lo)) es)) (sym t.ends) (inl (moved (way.first + (y - r.span.lo)) (omega (arith, from))))

-- the stop of a name is at or below the last address
stop_low : (net : List NodeDecl) (x y : Name) → StopsAt net x y → y.addr ≤ top
stop_low net x y st = go (unit_at net y.node) st.0
  where
    go : (o : Option UnitPart) → IsTrue (is_stop_at y.addr o) → y.addr ≤ top
    go None e = absurd (false≢true e)
    go (Some u) e = leb-true y.addr top e

-- where so many addresses and no others lead to so many names, the rows of preimages give just them
alone_gives : (net : List NodeDecl) (agent unit x size v : ℕ) (rows : List Row) → AreNormal (IsPreimage net agent unit) rows → LeadsAlone net agent unit x size v → GivesOnly rows (record { node = agent; base = v }) size x
alone_gives net agent unit x size v rows n alone = λ i l z. (
  (λ g. (alone i z l).0 ((n.exact (x + i) z (low i l)).1 g)),
  (λ e. (n.exact (x + i) z (low i l)).0 ((alone i z l).1 e)),
)
  where
    low : (i : ℕ) → i < size → x + i ≤ TOP
    low i l = stop_low net (record { node = agent; addr = v + i }) (record { node = unit; addr = x + i }) ((alone i (record { node = agent; base = v + i }) l).1 refl).stop

-- so the row that has the first of the names has all of them
pub alone_row : (net : List NodeDecl) (agent unit x size v : ℕ) (rows : List Row) (r : Row) → AreNormal (IsPreimage net agent unit) rows → Contains rows r → IsTrue (in_span r.span x) → 1 ≤ size → LeadsAlone net agent unit x size v → InRow r (record { node = agent; base = v }) size x
alone_row net agent unit x size v rows r n c at some alone = row_has rows r (record { node = agent; base = v }) size x n.apart c at some (alone_gives net agent unit x size v rows n alone)

-- and some row has it
pub alone_given : (net : List NodeDecl) (agent unit x size v : ℕ) (rows : List Row) → AreNormal (IsPreimage net agent unit) rows → list_any (λ (r : Row). in_span r.span x) rows ≡ false → 1 ≤ size → LeadsAlone net agent unit x size v → ⊥
alone_given net agent unit x size v rows n none some alone =
    let first : GivenBy rows (x + 0) (record { node = agent; base = v + 0 }) = (alone_gives net agent unit x size v rows n alone 0 some (record { node = agent; base = v + 0 })).1 refl in
    none_given rows x (record { node = agent; base = v + 0 }) none (subst (λ m. GivenBy rows m (record { node = agent; base = v + 0 })) (let k : x + 0 ≡ x = omega arith in k) first)

-- what follows from a fact follows from it where there is nothing
pub none_then : {A : Type 0} (o : Option A) (P Q : Type 0) → (P → Q) → IfNone o P → IfNone o Q
none_then None P Q h p = h p
none_then (Some x) P Q h p = tt

-- a row of an agent that gives so many names to as many of its addresses is a way
pub row_way : (net : List NodeDecl) (agent : ℕ) (r : Row) (t : End) (size v : ℕ) → InRow r t size v → GivesStops net agent r → IsWayTo net agent t size (record { first = r.span.lo; last = r.span.hi; v = v })
row_way net agent r t size v g gives = record {
  from = g.from;
  to = g.to;
  within = r.span.within;
  base = g.first;
  wanted = g.base;
  stops = λ a from to. gives a (record { node = t.node; base = g.first + (a - r.span.lo) }) (inl (in_from r.span a from to, subst (λ (es : List End). Member (record { node = t.node; base = g.first + (a - r.span.lo) }) (map (further_end (a - r.span.lo)) es)) (sym g.ends) (inl refl)));
}

-- a placement that is looked for stands at addresses that alone lead to the names of its first hop

pub stands_alone : (s : Sought) (hops : List Hop) (q : Place) → IsSearchReady s → 1 ≤ length hops → q.hops ≡ hops → IsSuited s.net s.slots s.request s.at q → LeadsAlone s.net s.request.agent (wanted_name s.request hops).node (wanted_name s.request hops).base s.request.size q.v
stands_alone s [] q ready some e is = absurd (omega arith)
stands_alone s (hop ∷ hops) q ready some e is = λ i z l. (there i z l, back i z l)
  where
    meets : (i : ℕ) → i < s.request.size → StopsAt s.net (name_on s.request.agent q.v i) (name_on hop.unit hop.x i)
    meets i l = (subst (λ (hs : List Hop). Meets s.net s.request s.request.agent q.v hs) e is.is_placement.meets) i l

    named : (z : End) → z.node ≡ s.request.agent → (m : ℕ) → z.base ≡ m → ◌≡◌ {A = End} (record { node = s.request.agent; base = m }) z
    named z n m b = made z.node z.base n b
      where
        made : (k d : ℕ) → k ≡ s.request.agent → d ≡ m → ◌≡◌ {A = End} (record { node = s.request.agent; base = m }) (record { node = k; base = d })
        made k d p r = cc

    there : (i : ℕ) (z : End) → i < s.request.size → IsPreimage s.net s.request.agent hop.unit (hop.x + i) z → further_end i (record { node = s.request.agent; base = q.v }) ≡ z
    there i z l p =
        let own : Name = record { node = s.request.agent; addr = z.base } in
        let same : own ≡ name_on s.request.agent q.v i = ready.alone q i (name_on hop.unit hop.x i) own is l (meets i l) ready.is_agent p.stop in
        named z p.node (q.v + i) (ap (λ (n : Name). n.addr) same)

    back : (i : ℕ) (z : End) → i < s.request.size → further_end i (record { node = s.request.agent; base = q.v }) ≡ z → IsPreimage s.net s.request.agent hop.unit (hop.x + i) z
    back i z l e = subst (λ (w : End). IsPreimage s.net s.request.agent hop.unit (hop.x + i) w) e (record { node = refl; low = (let f = is.is_placement.fits in omega (arith, f, l)); stop = meets i l })

-- the hops of a placement are those that are chosen
pub same_hops : (s : Sought) (hops : List Hop) (q : Place) → IsUnder s (key_of_hops (length hops) hops) q → q.hops ≡ hops
same_hops s hops q u = (whole s hops q [] (subst (λ f. IsUnder s f q) (sym (append_none (key_of_hops (length hops) hops))) u)).same

-- where nothing leads to the names alone, there is no placement
pub none_leads : (s : Sought) (hops : List Hop) → IsSearchReady s → 1 ≤ length hops → ((v : ℕ) → LeadsAlone s.net s.request.agent (wanted_name s.request hops).node (wanted_name s.request hops).base s.request.size v → ⊥) → NoneUnder s (key_of_hops (length hops) hops)
none_leads s hops ready some none = record { none = λ q u. none q.v (stands_alone s hops q ready some (same_hops s hops q u) u.is) }

-- where a way leads there, each placement stands at its address
at_way : (s : Sought) (hops : List Hop) (way : Way) (q : Place) → IsSearchReady s → 1 ≤ length hops → IsWayTo s.net s.request.agent (wanted_name s.request hops) s.request.size way → q.hops ≡ hops → IsSuited s.net s.slots s.request s.at q → q.v ≡ way.v
at_way s hops way q ready some w e is =
    let t : End = wanted_name s.request hops in
    let plain : (m : ℕ) → m ≡ t.base → StopsFrom s.net s.request.agent way.v (record { node = t.node; base = m }) → StopsFrom s.net s.request.agent way.v (record { node = t.node; base = t.base + 0 }) = λ m f st. subst (λ (n : ℕ). StopsFrom s.net s.request.agent way.v (record { node = t.node; base = n })) (let k : m ≡ t.base + 0 = omega (arith, f) in k) st in
    let high : way.v ≤ way.last = omega (arith, w.to, ready.some) in
    let p : IsPreimage s.net s.request.agent t.node (t.base + 0) (record { node = s.request.agent; base = way.v }) = record { node = refl; low = omega (arith, high, w.within); stop = plain (w.base + (way.v - way.first)) w.wanted (w.stops way.v w.from high) } in
    let same : further_end 0 (record { node = s.request.agent; base = q.v }) ≡ record { node = s.request.agent; base = way.v } = (stands_alone s hops q ready some e is 0 (record { node = s.request.agent; base = way.v }) ready.some).0 p in
    let at : q.v + 0 ≡ way.v = ap (λ (z : End). z.base) same in
    omega (arith, at)

-- so the first of those at its address is the first of all
pub only_way : (s : Sought) (hops : List Hop) (way : Way) (found : Option Place) → IsSearchReady s → 1 ≤ length hops → IsWayTo s.net s.request.agent (wanted_name s.request hops) s.request.size way → IsFirstOrNone s (to_address (length hops) hops way.v) found → IsFirstOrNone s (key_of_hops (length hops) hops) found
only_way s hops way found ready some w a = only_number s (key_of_hops (length hops) hops) way.v found (agent_goes s hops) others a
  where
    others : (j : ℕ) → (j ≡ way.v → ⊥) → NoneUnder s (to_address (length hops) hops j)
    others j other = record { none = λ q u. let k = v_of s hops q j u in other (sym k.0 ∙ at_way s hops way q ready some w k.1 u.is) }

-- and where its address is not asked for, there is none
pub way_not_asked : (s : Sought) (hops : List Hop) (way : Way) → IsSearchReady s → 1 ≤ length hops → IsWayTo s.net s.request.agent (wanted_name s.request hops) s.request.size way → (IsAt s.at way.v → ⊥) → NoneUnder s (key_of_hops (length hops) hops)
way_not_asked s hops way ready some w other = record { none = λ q u. other (subst (IsAt s.at) (at_way s hops way q ready some w (same_hops s hops q u) u.is) u.is.is_at) }

-- the agent meets the hops from the address of a way
pub way_addressed : (s : Sought) (hops : List Hop) (way : Way) → IsChosen s (length hops) hops → 1 ≤ length hops → IsAt s.at way.v → IsWayTo s.net s.request.agent (wanted_name s.request hops) s.request.size way → IsAddressed s hops way.v
way_addressed s [] way chosen some at w = absurd (omega arith)
way_addressed s (hop ∷ hops) way chosen some at w = record {
  chosen = chosen;
  some = some;
  fits = omega (arith, w.to, w.within);
  at = at;
  meets = λ i l. subst (λ (n : ℕ). StopsFrom s.net s.request.agent (way.v + i) (record { node = hop.unit; base = n })) (let k : w.base + ((way.v + i) - way.first) ≡ hop.x + i = omega (arith, w.wanted, w.from) in k) (w.stops (way.v + i) (omega (arith, w.from)) (omega (arith, w.to, l)));
}

-- what the preimages tell, asked by a copy of the request

pub way_asked : (s : Sought) (hops : List Hop) (rq : Request) (t : End) (way : Way) (rows : List Row) → rq ≡ s.request → t ≡ wanted_name rq hops → AreNormal (IsPreimage s.net s.request.agent (wanted_name s.request hops).node) rows → ((net : List NodeDecl) (agent unit : ℕ) → AreNormal (IsPreimage net agent unit) rows → IsWayTo net agent (record { node = unit; base = t.base }) rq.size way) → IsWayTo s.net s.request.agent (wanted_name s.request hops) s.request.size way
way_asked s hops rq t way rows e f n told =
    let w : End = wanted_name s.request hops in
    subst (λ (q : Request). IsWayTo s.net s.request.agent w q.size way) e
    (subst (λ (z : End). IsWayTo s.net s.request.agent (record { node = w.node; base = z.base }) rq.size way) (f ∙ ap (λ (q : Request). wanted_name q hops) e) (told s.net s.request.agent w.node n))

pub none_asked : (s : Sought) (hops : List Hop) (rq : Request) (t : End) (rows : List Row) → rq ≡ s.request → t ≡ wanted_name rq hops → AreNormal (IsPreimage s.net s.request.agent (wanted_name s.request hops).node) rows → ((net : List NodeDecl) (agent unit v : ℕ) → AreNormal (IsPreimage net agent unit) rows → LeadsAlone net agent unit t.base rq.size v → ⊥) → (v : ℕ) → LeadsAlone s.net s.request.agent (wanted_name s.request hops).node (wanted_name s.request hops).base s.request.size v → ⊥
none_asked s hops rq t rows e f n told = λ v alone.
    let w : End = wanted_name s.request hops in
    told s.net s.request.agent w.node v n
    (subst (λ (q : Request). LeadsAlone s.net s.request.agent w.node t.base q.size v) (sym e)
    (subst (λ (z : End). LeadsAlone s.net s.request.agent w.node z.base s.request.size v) (sym (f ∙ ap (λ (q : Request). wanted_name q hops) e)) alone))
