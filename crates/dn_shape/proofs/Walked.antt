-- The walks that lead a node past another, and the names that they give.
use Rattle.std.proofs.Common.{◌≡◌, ℕ, zero, suc, ◌+◌, ◌-◌, ◌<◌, ◌≤◌, ◌↔◌, inl, inr, Bool, true, false, if◌then◌else◌, ◌&&◌, nat_le, nat_eq, ◌==◌, List, [], ◌∷◌, ◌++◌, map, filter, length, get_or, take, append_assoc, slice_get, Option, Some, None, option_map, refl, sym, ap, ◌∙◌, subst, arith, IsTrue, eqb-true, eq-eqb, le-leb, All}
use Rattle.std.specs.List.{flat_map}
use Rattle.std.proofs.lemmas.Bool.{and_parts, and_from}
use Rattle.std.proofs.lemmas.List.{map-append, append-nil, take_more}
use Rattle.dn_base.specs.Members.{Member}
use Rattle.dn_base.proofs.Members.{any_member, member_any, map_member, member_map, member_get_or}
use Rattle.dn_base.proofs.Lists.{item_there}
use Rattle.dn_interval.specs.declared.row.End.{End}
use Rattle.dn_interval.specs.declared.row.Row.{Row}
use Rattle.dn_interval.specs.declared.row.Seg.{Seg}
use Rattle.dn_interval.specs.declared.span.Span.{Span}
use Rattle.dn_interval.specs.declared.span.TheConstants.{TOP}
use Rattle.dn_interval.specs.Listed.{seen_view}
use Rattle.dn_interval.specs.Rows.{AreNormal, SegmentsGive}
use Rattle.dn_interval.specs.Spans.{in_span}
use Rattle.dn_interval.specs.Strands.{seg_gives, segs_give}
use Rattle.dn_interval.proofs.Listing.{normal_are_listed}
use Rattle.dn_interval.proofs.Names.{segs_from, segs_to}
use Rattle.dn_interval.proofs.Normal.{normal_like}
use Rattle.dn_net.specs.declared.node.Name.{Name}
use Rattle.dn_net.specs.declared.node.NodeDecl.{NodeDecl}
use Rattle.dn_net.specs.Decode.{top, within, steps, Step}
use Rattle.dn_net.specs.Rules.{KeepsNodeRules}
use Rattle.dn_net.specs.Walks.{ChoiceLeads, Follows, Leg as NetLeg, legs, legs_of, Walk, last_out, meets, onto, extensions_of, still_walk, still_walks, level, moved_name}
use Rattle.dn_net.proofs.Apart.{IsApart, node_apart}
use Rattle.dn_net.proofs.Choices.{chain_is_walk, choice_of_step}
use Rattle.dn_net.proofs.Least.{within_to}
use Rattle.dn_net.proofs.Legs.{leads_of_leg, leg_of_leads, leads_once, leads_in_range}
use Rattle.dn_net.proofs.Levels.{IsRow, level_is_row}
use Rattle.dn_net.proofs.Members.{member_filter, filter_member, member_flat_map, flat_map_member}
use Rattle.dn_net.proofs.Resolution.{name_is}
use Rattle.dn_walk.specs.declared.walks.WalkRow.{WalkRow}
use Rattle.dn_walk.specs.Legs.{BareLeg, leg_view, bare_leg, bare_legs, AreLegs}
use Rattle.dn_walk.specs.Levels.{bare_onto, bare_extensions_by}
use Rattle.dn_walk.specs.Rows.{BareWalk, bare_walk, row_view}
use Rattle.dn_walk.proofs.Bridge.{met_bare, each_onto}
use Rattle.dn_walk.proofs.Nodes.{legs_of_node}
use Rattle.dn_walk.proofs.BareWalks.{rise_back}
use Rattle.dn_walk.proofs.Ends.{end_in}
use Rattle.dn_shape.specs.Absorb.{steps_past, rows_past}
use Rattle.dn_shape.specs.Past.{LeadOn, onward, bare_onward, bare_gives, bare_give}
use Rattle.dn_shape.proofs.Passing.{end_name, ends_past, ends_past_ascend, past_in}

-- the walks of one choice from a node, past another
abbrev pub walks_past : List NodeDecl → ℕ → ℕ → List Walk
walks_past net m i = flat_map (onward net m) (extensions_of net (still_walk i))

-- what is told of the walks that go on by the legs of a node
pub bare_extensions_are : (w : Walk) (ls : List NetLeg) → bare_extensions_by (map bare_leg ls) (bare_walk w) ≡ map bare_walk (map (onto w) (filter (meets w) ls))
bare_extensions_are w ls = ap (map (bare_onto (bare_walk w))) (met_bare w ls) ∙ each_onto w (filter (meets w) ls)

-- what is told of the walks of one choice from a node
pub first_bare : (net : List NodeDecl) (i : ℕ) (ls : List BareLeg) → option_map bare_legs (slice_get net i) ≡ Some ls → bare_extensions_by ls (bare_walk (still_walk i)) ≡ map bare_walk (extensions_of net (still_walk i))
first_bare net i ls e = by (slice_get net i) refl e
  where
    by : (o : Option NodeDecl) → slice_get net i ≡ o → option_map bare_legs o ≡ Some ls → bare_extensions_by ls (bare_walk (still_walk i)) ≡ map bare_walk (extensions_of net (still_walk i))
    by None f e = cc
    by (Some n) f e =
        let s : bare_legs n ≡ ls = cc in
        ap (λ l. bare_extensions_by l (bare_walk (still_walk i))) (sym s) ∙ bare_extensions_are (still_walk i) (legs n) ∙ ap (λ o. map bare_walk (map (onto (still_walk i)) (filter (meets (still_walk i)) (legs_of o)))) (sym f)

-- and of a walk that goes on where it leads into the node
pub onward_bare : (net : List NodeDecl) (m : ℕ) (ls : List BareLeg) → option_map bare_legs (slice_get net m) ≡ Some ls → (w : Walk) → bare_onward ls m (bare_walk w) ≡ map bare_walk (onward net m w)
onward_bare net m ls e w = by (w.to.node == m) refl (slice_get net m) refl e
  where
    by : (b : Bool) → (w.to.node == m) ≡ b → (o : Option NodeDecl) → slice_get net m ≡ o → option_map bare_legs o ≡ Some ls → (if b then bare_extensions_by ls (bare_walk w) else bare_walk w ∷ []) ≡ map bare_walk (if b then extensions_of net w else w ∷ [])
    by false h o f e = refl
    by true h None f e = cc
    by true h (Some n) f e =
        let s : bare_legs n ≡ ls = cc in
        let g : slice_get net w.to.node ≡ Some n = ap (slice_get net) (eqb-true w.to.node m h) ∙ f in
        ap (λ l. bare_extensions_by l (bare_walk w)) (sym s) ∙ bare_extensions_are w (legs n) ∙ ap (λ o. map bare_walk (map (onto w) (filter (meets w) (legs_of o)))) (sym g)

pub all_bare : (net : List NodeDecl) (m : ℕ) (ls : List BareLeg) → option_map bare_legs (slice_get net m) ≡ Some ls → (ws : List Walk) → flat_map (bare_onward ls m) (map bare_walk ws) ≡ map bare_walk (flat_map (onward net m) ws)
all_bare net m ls e [] = refl
all_bare net m ls e (w ∷ ws) =
    ap (λ x. x ++ flat_map (bare_onward ls m) (map bare_walk ws)) (onward_bare net m ls e w)
    ∙ ap (λ x. map bare_walk (onward net m w) ++ x) (all_bare net m ls e ws)
    ∙ sym (map-append bare_walk (onward net m w) (flat_map (onward net m) ws))

-- the walks past a node, from those of one choice
pub past_bare : (net : List NodeDecl) (m i : ℕ) (ls : List BareLeg) (first lent walks : List WalkRow) → option_map bare_legs (slice_get net m) ≡ Some ls → map row_view first ≡ map bare_walk (extensions_of net (still_walk i)) → lent ≡ first →
    map row_view walks ≡ flat_map (bare_onward ls m) (map row_view lent) → map row_view walks ≡ map bare_walk (walks_past net m i)
past_bare net m i ls first lent walks e one same more =
    more
    ∙ ap (λ l. flat_map (bare_onward ls m) (map row_view l)) same
    ∙ ap (flat_map (bare_onward ls m)) one
    ∙ all_bare net m ls e (extensions_of net (still_walk i))

-- by which walks go on
pub legs_lead : (net : List NodeDecl) → KeepsNodeRules net → (i : ℕ) (segs : List Seg) → i < length net → option_map bare_legs (slice_get net i) ≡ Some (map leg_view segs) → LeadOn segs
legs_lead net rules i segs l e = by (item_there net i l)
  where
    lead : AreLegs (length net) (map leg_view segs) → LeadOn segs
    lead h = record { firsts = rise_back leg_view (λ (l : BareLeg). l.lo) segs h.firsts; lasts = rise_back leg_view (λ (l : BareLeg). l.hi) segs h.lasts }

    by : (n : NodeDecl) × (slice_get net i ≡ Some n) → LeadOn segs
    by (n, at) =
        let s : ◌≡◌ {A = Option (List BareLeg)} (Some (bare_legs n)) (Some (map leg_view segs)) = ap (option_map bare_legs) (sym at) ∙ e in
        let t : bare_legs n ≡ map leg_view segs = cc in
        lead (subst (AreLegs (length net)) t (legs_of_node net rules i n at))

-- rows that tell of walks
row_walk : (ws : List Walk) (rows : List WalkRow) → map row_view rows ≡ map bare_walk ws → (k : ℕ) (d : WalkRow) → k < length rows → (w : Walk) × Member w ws × (bare_walk w ≡ row_view (get_or rows k d))
row_walk ws rows e k d l = map_member bare_walk ws (row_view (get_or rows k d)) (subst (λ x. Member (row_view (get_or rows k d)) x) e (member_map row_view rows (get_or rows k d) (member_get_or rows k d l)))

pub rows_far : (net : List NodeDecl) (ws : List Walk) (rows : List WalkRow) → ((w : Walk) → Member w ws → (k : ℕ) × IsRow net k w) → map row_view rows ≡ map bare_walk ws → All (λ (r : WalkRow). r.base + (r.span.hi - r.span.lo) ≤ TOP) rows
rows_far net ws rows each e = λ k d l. far (get_or rows k d) (row_walk ws rows e k d l)
  where
    far : (r : WalkRow) → (w : Walk) × Member w ws × (bare_walk w ≡ row_view r) → r.base + (r.span.hi - r.span.lo) ≤ TOP
    far r (w, m, t) = subst (λ (u : BareWalk). u.base + (u.hi - u.lo) ≤ TOP) t (each w m).1.out

pub rows_short : (net : List NodeDecl) (ws : List Walk) (rows : List WalkRow) → ((w : Walk) → Member w ws → IsRow net 1 w) → map row_view rows ≡ map bare_walk ws → All (λ (r : WalkRow). r.len ≤ 64) rows
rows_short net ws rows each e = λ k d l. short (get_or rows k d) (row_walk ws rows e k d l)
  where
    short : (r : WalkRow) → (w : Walk) × Member w ws × (bare_walk w ≡ row_view r) → r.len ≤ 64
    short r (w, m, t) =
        let a : length w.choices ≡ 1 = (each w m).long in
        let b : length w.choices ≡ r.len = ap (λ (u : BareWalk). u.len) t in
        omega arith

-- the segment of a walk gives what is told of it
pub seg_told : (s : Seg) (r : WalkRow) (a : ℕ) (y : End) → s.span ≡ r.span → s.node ≡ r.end → s.base ≡ r.base → seg_gives s a y ≡ bare_gives (row_view r) a y
seg_told s r a y p n b =
    ap (λ (q : Span). in_span q a && (nat_eq s.node y.node && nat_eq (s.base + (a - q.lo)) y.base)) p
    ∙ ap (λ m. in_span r.span a && (nat_eq m y.node && nat_eq (s.base + (a - r.span.lo)) y.base)) n
    ∙ ap (λ m. in_span r.span a && (nat_eq r.end y.node && nat_eq (m + (a - r.span.lo)) y.base)) b

-- one row more
pub onward_more : (f : BareWalk → List BareWalk) (rows : List WalkRow) (i : ℕ) (r : WalkRow) → i < length rows → r ≡ get_or rows i r → flat_map f (map row_view (take (i + 1) rows)) ≡ flat_map f (map row_view (take i rows)) ++ f (row_view r)
onward_more f rows i r l e =
    ap (λ x. flat_map f (map row_view x)) (take_more rows i r l ∙ ap (λ x. take i rows ++ x ∷ []) (sym e))
    ∙ ap (flat_map f) (map-append row_view (take i rows) (r ∷ []))
    ∙ flat_last f (map row_view (take i rows)) (row_view r)
  where
    flat_last : (f : BareWalk → List BareWalk) (ts : List BareWalk) (t : BareWalk) → flat_map f (ts ++ t ∷ []) ≡ flat_map f ts ++ f t
    flat_last f [] t = append-nil (f t)
    flat_last f (u ∷ ts) t = ap (λ x. f u ++ x) (flat_last f ts t) ∙ sym (append_assoc (f u) (flat_map f ts) (f t))

-- the walk of no choice from a node that is there
still_there : (k i : ℕ) (ds : List NodeDecl) → i < length ds → Member (still_walk (k + i)) (still_walks k ds)
still_there k i [] l = absurd (omega arith)
still_there k zero (d ∷ ds) l = let s : k ≡ k + 0 = omega arith in inl (ap still_walk s)
still_there k (suc i) (d ∷ ds) l = let s : suc k + i ≡ k + suc i = omega arith in inr (subst (λ x. Member (still_walk x) (still_walks (suc k) ds)) s (still_there (suc k) i ds (omega arith)))

-- the address follows what is told of a walk to a name
pub gives_to : (w : Walk) (a : ℕ) (y : End) → bare_gives (bare_walk w) a y ≡ true → IsTrue (within a w.span) × (moved_name (a - w.span.lo) w.to ≡ end_name y)
gives_to w a y e =
    let p = and_parts (within a w.span) (nat_eq w.to.node y.node && nat_eq (w.to.addr + (a - w.span.lo)) y.base) e in
    let q = and_parts (nat_eq w.to.node y.node) (nat_eq (w.to.addr + (a - w.span.lo)) y.base) p.1 in
    (p.0, name_is w.to.node y.node (w.to.addr + (a - w.span.lo)) y.base (eqb-true w.to.node y.node q.0) (eqb-true (w.to.addr + (a - w.span.lo)) y.base q.1))

pub gives_from : (w : Walk) (a : ℕ) (y : End) → IsTrue (within a w.span) → moved_name (a - w.span.lo) w.to ≡ end_name y → bare_gives (bare_walk w) a y ≡ true
gives_from w a y i e =
    and_from (within a w.span) (nat_eq w.to.node y.node && nat_eq (w.to.addr + (a - w.span.lo)) y.base) i
    (and_from (nat_eq w.to.node y.node) (nat_eq (w.to.addr + (a - w.span.lo)) y.base) (eq-eqb w.to.node y.node (ap (λ n. n.node) e)) (eq-eqb (w.to.addr + (a - w.span.lo)) y.base (ap (λ n. n.addr) e)))

module _ (net : List NodeDecl) (rules : KeepsNodeRules net) (m i : ℕ) (there : i < length net) where
  apart_at : (k : ℕ) (n : NodeDecl) → slice_get net k ≡ Some n → IsApart n
  apart_at k n at = node_apart net rules.each k n at

  pub first_level : (w : Walk) → Member w (extensions_of net (still_walk i)) → Member w (level net 1)
  first_level w h =
      let e : 0 + i ≡ i = omega arith in
      flat_map_member (extensions_of net) (level net 0) (still_walk i) w (subst (λ k. Member (still_walk k) (still_walks 0 net)) e (still_there 0 i net there)) h

  second_level : (v w : Walk) → Member v (extensions_of net (still_walk i)) → Member w (extensions_of net v) → Member w (level net 2)
  second_level v w g h = flat_map_member (extensions_of net) (level net 1) v w (first_level v g) h

  -- each of the walks is a row of a level
  pub row_of_walk : (w : Walk) → Member w (walks_past net m i) → (k : ℕ) × IsRow net k w
  row_of_walk w h =
      let r = member_flat_map (onward net m) (extensions_of net (still_walk i)) w h in
      by r.0 r.1 (r.0.to.node == m) r.2
    where
      by : (v : Walk) → Member v (extensions_of net (still_walk i)) → (b : Bool) → Member w (if b then extensions_of net v else v ∷ []) → (k : ℕ) × IsRow net k w
      by v g true t = (2, level_is_row net rules 2 w (second_level v w g t))
      by v g false (inl t) = (1, level_is_row net rules 1 w (first_level w (subst (λ u. Member u (extensions_of net (still_walk i))) t g)))
      by v g false (inr t) = absurd t

  -- a leg of which a walk is made
  leg_of : (v w : Walk) → Member w (extensions_of net v) → (l : NetLeg) × ChoiceLeads (slice_get net v.to.node) l.choice l.block l.to × (onto v l ≡ w)
  leg_of v w h =
      let p = map_member (onto v) (filter (meets v) (legs_of (slice_get net v.to.node))) w h in
      let q = member_filter (meets v) (legs_of (slice_get net v.to.node)) p.0 p.1 in
      (p.0, leads_of_leg (slice_get net v.to.node) (λ n e. apart_at v.to.node n e) p.0 q.0, p.2)

  step_of : (x y : Name) (l : NetLeg) → Follows net x (l.choice ∷ []) y → Step net x y
  step_of x y l f =
      let c = (chain_is_walk net rules 1 x y).1 (l.choice ∷ [], refl, f) in
      subst (λ z. Step net x z) c.2 c.1

  module _ (a : ℕ) (low : a ≤ TOP) where
    abbrev here : Name
    here = record { node = i; addr = a }

    -- a name that one of the walks gives is one past the node
    given_past : (y : Name) (v : Walk) → Member v (extensions_of net (still_walk i)) → (w : Walk) → (b : Bool) → (v.to.node == m) ≡ b → Member w (if b then extensions_of net v else v ∷ []) → IsTrue (within a w.span) → moved_name (a - w.span.lo) w.to ≡ y → Member y (steps_past net m here)
    given_past y v g w false h (inr t) n e = absurd t
    given_past y v g w false h (inl t) n e =
        let l = leg_of (still_walk i) v g in
        let r = level_is_row net rules 1 v (first_level v g) in
        let n' : IsTrue (within a v.span) = subst (λ u. IsTrue (within a u.span)) (sym t) n in
        let e' : moved_name (a - v.span.lo) v.to ≡ y = subst (λ u. moved_name (a - u.span.lo) u.to ≡ y) (sym t) e in
        let f : Follows net here v.choices y = subst (λ k. Follows net (record { node = k; addr = a }) v.choices y) (start v l.0 l.2) ((r.follows a y low).1 (n', e')) in
        let s : Step net here y = step_of here y l.0 (subst (λ u. Follows net here u.choices y) (sym l.2) f) in
        let away : (y.node == m) ≡ false = ap (λ (z : Name). z.node == m) (sym e') ∙ h in
        (past_in net m here y).1 (y, s, subst (λ c. Member y (if c then steps net y else y ∷ [])) (sym away) (inl refl))
      where
        start : (v : Walk) (l : NetLeg) → onto (still_walk i) l ≡ v → v.start ≡ i
        start v l e = ap (λ u. u.start) (sym e)
    given_past y v g w true h t n e =
        let l = leg_of (still_walk i) v g in
        let k = leg_of v w t in
        let r = level_is_row net rules 2 w (second_level v w g t) in
        let made : onto (onto (still_walk i) l.0) k.0 ≡ w = ap (λ u. onto u k.0) l.2 ∙ k.2 in
        let start : w.start ≡ i = ap (λ u. u.start) (sym made) in
        let f : Follows net here w.choices y = subst (λ j. Follows net (record { node = j; addr = a }) w.choices y) start ((r.follows a y low).1 (n, e)) in
        let g' : Follows net here (l.0.choice ∷ (k.0.choice ∷ [])) y = subst (λ u. Follows net here u.choices y) (sym made) f in
        let z : Name = moved_name (a - g'.0.lo) g'.1 in
        let s : Step net here z = step_of here z l.0 (g'.0, g'.1, g'.2, g'.3, refl) in
        let u : Step net z y = step_of z y k.0 g'.4 in
        let same = leads_once (slice_get net i) l.0.choice g'.0 l.0.block g'.1 l.0.to g'.2 l.1 in
        let into : (z.node == m) ≡ true = ap (λ (x : Name). x.node == m) same.1 ∙ (ap (λ (x : Walk). x.to.node == m) l.2 ∙ h) in
        (past_in net m here y).1 (z, s, subst (λ c. Member y (if c then steps net z else z ∷ [])) (sym into) u)

    -- the walk of a step
    record Walks (z : Name) : Type 0 where
      leg : NetLeg
      leads : ChoiceLeads (slice_get net i) leg.choice leg.block leg.to
      member : Member (onto (still_walk i) leg) (extensions_of net (still_walk i))
      inside : IsTrue (within a leg.block)
      to : moved_name (a - leg.block.lo) leg.to ≡ z

    walk_of : (z : Name) → Step net here z → Walks z
    walk_of z s =
        let c = choice_of_step (slice_get net i) a z s in
        let l : NetLeg = record { choice = c.choice; block = c.block; to = c.name } in
        let leg : Member l (legs_of (slice_get net i)) = leg_of_leads (slice_get net i) (λ n e. apart_at i n e) c.choice c.block c.name c.leads in
        let range = leads_in_range (slice_get net i) (λ n e. apart_at i n e) c.choice c.block c.name c.leads in
        let b0 : c.block.lo ≤ c.block.hi = range.0 in
        let b1 : c.block.hi ≤ top = range.1 in
        let lo : 0 ≤ c.block.hi = omega arith in
        let hi : c.block.lo ≤ 0 + (top - 0) = omega arith in
        let met : IsTrue (meets (still_walk i) l) = and_from (nat_le 0 c.block.hi) (nat_le c.block.lo (0 + (top - 0))) (le-leb 0 c.block.hi lo) (le-leb c.block.lo (0 + (top - 0)) hi) in
        record {
          leg = l;
          leads = c.leads;
          member = member_map (onto (still_walk i)) (filter (meets (still_walk i)) (legs_of (slice_get net i))) l (filter_member (meets (still_walk i)) (legs_of (slice_get net i)) l leg met);
          inside = c.inside;
          to = c.to;
        }

    -- a name past the node is given by one of the walks
    record Given (y : Name) : Type 0 where
      walk : Walk
      member : Member walk (walks_past net m i)
      inside : IsTrue (within a walk.span)
      to : moved_name (a - walk.span.lo) walk.to ≡ y

    past_given : (y : Name) → Member y (steps_past net m here) → Given y
    past_given y h =
        let r = (past_in net m here y).0 h in
        by r.0 (walk_of r.0 r.1) (r.0.node == m) refl r.2
      where
        by : (z : Name) → Walks z → (b : Bool) → (z.node == m) ≡ b → Member y (if b then steps net z else z ∷ []) → Given y
        by z w false e (inr t) = absurd t
        by z w false e (inl t) =
            let v : Walk = onto (still_walk i) w.leg in
            let r = level_is_row net rules 1 v (first_level v w.member) in
            let f = (r.follows a z low).0 (w.leg.block, w.leg.to, w.leads, w.inside, w.to) in
            let away : (v.to.node == m) ≡ false = ap (λ (x : Name). x.node == m) w.to ∙ e in
            record {
              walk = v;
              member = flat_map_member (onward net m) (extensions_of net (still_walk i)) v v w.member (subst (λ c. Member v (if c then extensions_of net v else v ∷ [])) (sym away) (inl refl));
              inside = f.0;
              to = f.1 ∙ t;
            }
        by z w true e t =
            let v : Walk = onto (still_walk i) w.leg in
            let r = level_is_row net rules 1 v (first_level v w.member) in
            let f = (r.follows a z low).0 (w.leg.block, w.leg.to, w.leads, w.inside, w.to) in
            let node : v.to.node ≡ z.node = ap (λ (x : Name). x.node) w.to in
            let c = choice_of_step (slice_get net z.node) z.addr y t in
            let k : NetLeg = record { choice = c.choice; block = c.block; to = c.name } in
            let leads : ChoiceLeads (slice_get net v.to.node) c.choice c.block c.name = subst (λ n. ChoiceLeads (slice_get net n) c.choice c.block c.name) (sym node) c.leads in
            let leg : Member k (legs_of (slice_get net v.to.node)) = leg_of_leads (slice_get net v.to.node) (λ n e. apart_at v.to.node n e) c.choice c.block c.name leads in
            let i' = within_to a v.span f.0 in
            let lo : v.span.lo ≤ a = i'.0 in
            let hi : a ≤ v.span.hi = i'.1 in
            let addr : v.to.addr + (a - v.span.lo) ≡ z.addr = ap (λ (x : Name). x.addr) f.1 in
            let j = within_to z.addr c.block c.inside in
            let j0 : c.block.lo ≤ z.addr = j.0 in
            let j1 : z.addr ≤ c.block.hi = j.1 in
            let m0 : v.to.addr ≤ c.block.hi = omega arith in
            let m1 : c.block.lo ≤ v.to.addr + (v.span.hi - v.span.lo) = omega arith in
            let met : IsTrue (meets v k) = and_from (nat_le v.to.addr c.block.hi) (nat_le c.block.lo (last_out v)) (le-leb v.to.addr c.block.hi m0) (le-leb c.block.lo (last_out v) m1) in
            let on : Member (onto v k) (extensions_of net v) = member_map (onto v) (filter (meets v) (legs_of (slice_get net v.to.node))) k (filter_member (meets v) (legs_of (slice_get net v.to.node)) k leg met) in
            let s = level_is_row net rules 2 (onto v k) (second_level v (onto v k) w.member on) in
            let next : Follows net z (k.choice ∷ []) y = (c.block, c.name, c.leads, c.inside, c.to) in
            let both : Follows net here (w.leg.choice ∷ (k.choice ∷ [])) y = (w.leg.block, w.leg.to, w.leads, w.inside, subst (λ x. Follows net x (k.choice ∷ []) y) (sym w.to) next) in
            let g = (s.follows a y low).0 both in
            let into : (v.to.node == m) ≡ true = ap (λ (x : Name). x.node == m) w.to ∙ e in
            record {
              walk = onto v k;
              member = flat_map_member (onward net m) (extensions_of net (still_walk i)) v (onto v k) w.member (subst (λ c. Member (onto v k) (if c then extensions_of net v else v ∷ [])) (sym into) on);
              inside = g.0;
              to = g.1;
            }

    -- the walks give exactly the names past the node
    pub walks_give : (y : End) → (bare_give (map bare_walk (walks_past net m i)) a y ≡ true) ↔ Member y (ends_past net m i a)
    walks_give y = (there', back)
      where
        there' : bare_give (map bare_walk (walks_past net m i)) a y ≡ true → Member y (ends_past net m i a)
        there' h =
            let r = any_member (λ t. bare_gives t a y) (map bare_walk (walks_past net m i)) h in
            let w = map_member bare_walk (walks_past net m i) r.0 r.1 in
            let g = gives_to w.0 a y (ap (λ t. bare_gives t a y) w.2 ∙ r.2) in
            let f = member_flat_map (onward net m) (extensions_of net (still_walk i)) w.0 w.1 in
            (end_in (steps_past net m here) (end_name y)).1 (given_past (end_name y) f.0 f.1 w.0 (f.0.to.node == m) refl f.2 g.0 g.1)

        back : Member y (ends_past net m i a) → bare_give (map bare_walk (walks_past net m i)) a y ≡ true
        back h =
            let g = past_given (end_name y) ((end_in (steps_past net m here) (end_name y)).0 h) in
            member_any (λ t. bare_gives t a y) (map bare_walk (walks_past net m i)) (bare_walk g.walk) (member_map bare_walk (walks_past net m i) g.walk g.member) (gives_from g.walk a y g.inside g.to)

pub first_row : (net : List NodeDecl) → KeepsNodeRules net → (i : ℕ) → i < length net → (w : Walk) → Member w (extensions_of net (still_walk i)) → IsRow net 1 w
first_row net rules i there w h = level_is_row net rules 1 w (first_level net rules i i there w h)

-- normal rows of what the walks give are the rows past the node
pub rows_are_past : (net : List NodeDecl) → KeepsNodeRules net → (m i : ℕ) → i < length net → (segs : List Seg) (rows : List Row) → ((a : ℕ) (y : End) → segs_give segs a y ≡ bare_give (map bare_walk (walks_past net m i)) a y) → AreNormal (SegmentsGive segs) rows → map seen_view rows ≡ rows_past net m i
rows_are_past net rules m i there segs rows give normal =
    normal_are_listed (ends_past net m i) (ends_past_ascend net m i) rows
    (normal_like (SegmentsGive segs) (λ a y. Member y (ends_past net m i a)) rows (λ a y low. (
      (λ g. (walks_give net rules m i there a low y).0 (sym (give a y) ∙ segs_from segs a y g)),
      (λ h. segs_to segs a y (give a y ∙ (walks_give net rules m i there a low y).1 h)),
    )) normal)
