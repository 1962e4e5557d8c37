-- What a node comes to by no step and by one, from what it accepts and from its legs.
use Rattle.std.proofs.Common.{◌≡◌, ℕ, zero, suc, ◌+◌, ◌-◌, ◌<◌, ◌↔◌, Bool, true, ◌&&◌, ◌||◌, nat_le, nat_eq, List, [], ◌∷◌, map, length, slice_get, Option, Some, None, option_map, refl, sym, ap, ◌∙◌, subst, arith, eqb-true, eq-eqb}
use Rattle.std.specs.List.{list_any}
use Rattle.std.proofs.lemmas.Bool.{and_parts, and_from}
use Rattle.dn_base.proofs.Members.{any_member, member_any, map_member, member_map}
use Rattle.dn_interval.specs.declared.row.End.{End}
use Rattle.dn_interval.specs.declared.row.Seg.{Seg}
use Rattle.dn_interval.specs.Strands.{seg_gives, segs_give}
use Rattle.dn_net.specs.declared.node.Name.{Name}
use Rattle.dn_net.specs.declared.node.NodeDecl.{NodeDecl}
use Rattle.dn_net.specs.Chain.{Member, IsChain}
use Rattle.dn_net.specs.Decode.{Step}
use Rattle.dn_net.specs.Rules.{KeepsNodeRules}
use Rattle.dn_net.specs.Walks.{Choice, Follows, legs, legs_of, Leg as NetLeg}
use Rattle.dn_net.proofs.Apart.{node_apart}
use Rattle.dn_net.proofs.Choices.{chain_is_walk}
use Rattle.dn_net.proofs.Legs.{leads_of_leg, leg_of_leads}
use Rattle.dn_net.proofs.Resolution.{name_is}
use Rattle.dn_walk.specs.Legs.{BareLeg, bare_leg, bare_legs, leg_view}
use Rattle.dn_walk.specs.Ends.{name_of_end}
use Rattle.dn_flat.specs.Firsts.{is_same}
use Rattle.dn_flat.specs.Stages.{EndsBefore, GoesIn}
use Rattle.dn_flat.proofs.Lists.{means_along}

-- the leg leads the address to the name
abbrev leg_gives : BareLeg → ℕ → End → Bool
leg_gives l a y = (nat_le l.lo a && nat_le a l.hi) && (nat_eq l.node y.node && nat_eq (l.addr + (a - l.lo)) y.base)

-- one of the legs leads the address to the name
abbrev legs_give : List BareLeg → ℕ → End → Bool
legs_give legs a y = list_any (λ l. leg_gives l a y) legs

pub same_means : (node a : ℕ) (y : End) → is_same node a y ≡ true → ◌≡◌ {A = Name} (record { node = node; addr = a }) (name_of_end y)
same_means node a y e =
    let p = and_parts (nat_eq node y.node) (nat_eq a y.base) e in
    name_is node y.node a y.base (eqb-true node y.node p.0) (eqb-true a y.base p.1)

pub same_from : (node a : ℕ) (y : End) → ◌≡◌ {A = Name} (record { node = node; addr = a }) (name_of_end y) → is_same node a y ≡ true
same_from node a y e = and_from (nat_eq node y.node) (nat_eq a y.base) (eq-eqb node y.node (ap (λ n. n.node) e)) (eq-eqb a y.base (ap (λ n. n.addr) e))

-- in fewer than one step only the address itself is reached
pub stay_ends : (net : List NodeDecl) (passes : Name → Bool) (node a : ℕ) (y : End) (b : Bool) → b ≡ passes (record { node = node; addr = a }) → ((b && is_same node a y) ≡ true) ↔ EndsBefore net passes 1 node a y
stay_ends net passes node a y b q = (to, (λ h. from h.0 h.1.0 h.1.1 h.1.2))
  where
    to : (b && is_same node a y) ≡ true → EndsBefore net passes 1 node a y
    to e =
        let p = and_parts b (is_same node a y) e in
        let s = same_means node a y p.1 in
        (subst (λ n. passes n ≡ true) s (sym q ∙ p.0), (0, omega arith, s))

    from : passes (name_of_end y) ≡ true → (j : ℕ) → j < 1 → IsChain (Step net) j (record { node = node; addr = a }) (name_of_end y) → (b && is_same node a y) ≡ true
    from t zero l c = and_from b (is_same node a y) (q ∙ (ap passes c ∙ t)) (same_from node a y c)
    from t (suc j) l c = absurd (omega arith)

module _ (net : List NodeDecl) (rules : KeepsNodeRules net) (node : ℕ) (n : NodeDecl) (at : slice_get net node ≡ Some n) (a : ℕ) (y : End) where
  abbrev here : Name
  here = record { node = node; addr = a }

  led : (l : NetLeg) → Member l (legs n) → leg_gives (bare_leg l) a y ≡ true → GoesIn net 1 node a y
  led l m g =
      let p = and_parts (nat_le l.block.lo a && nat_le a l.block.hi) (nat_eq l.to.node y.node && nat_eq (l.to.addr + (a - l.block.lo)) y.base) g in
      let q = and_parts (nat_eq l.to.node y.node) (nat_eq (l.to.addr + (a - l.block.lo)) y.base) p.1 in
      let f = leads_of_leg (slice_get net node) (λ k e. node_apart net rules.each node k e) l (subst (λ o. Member l (legs_of o)) (sym at) m) in
      let s = name_is l.to.node y.node (l.to.addr + (a - l.block.lo)) y.base (eqb-true l.to.node y.node q.0) (eqb-true (l.to.addr + (a - l.block.lo)) y.base q.1) in
      (chain_is_walk net rules 1 here (name_of_end y)).1 (l.choice ∷ [], refl, (l.block, l.to, f, p.0, s))

  by_choice : (cs : List Choice) → length cs ≡ 1 → Follows net here cs (name_of_end y) → legs_give (bare_legs n) a y ≡ true
  by_choice [] e f = absurd (omega arith)
  by_choice (c ∷ []) e f =
      let l : NetLeg = record { choice = c; block = f.0; to = f.1 } in
      let m = leg_of_leads (slice_get net node) (λ k e. node_apart net rules.each node k e) c f.0 f.1 f.2 in
      let k = member_map bare_leg (legs n) l (subst (λ o. Member l (legs_of o)) at m) in
      let g = and_from (nat_eq f.1.node y.node) (nat_eq (f.1.addr + (a - f.0.lo)) y.base) (eq-eqb f.1.node y.node (ap (λ t. t.node) f.4)) (eq-eqb (f.1.addr + (a - f.0.lo)) y.base (ap (λ t. t.addr) f.4)) in
      member_any (λ x. leg_gives x a y) (bare_legs n) (bare_leg l) k (and_from (nat_le f.0.lo a && nat_le a f.0.hi) (nat_eq f.1.node y.node && nat_eq (f.1.addr + (a - f.0.lo)) y.base) f.3 g)
  by_choice (c ∷ (d ∷ cs)) e f = absurd (omega arith)

  -- the legs of the node lead the address where one step does
  one_step : (legs_give (bare_legs n) a y ≡ true) ↔ GoesIn net 1 node a y
  one_step = (
    (λ e. let r = any_member (λ l. leg_gives l a y) (bare_legs n) e in let m = map_member bare_leg (legs n) r.0 r.1 in led m.0 m.1 (subst (λ l. leg_gives l a y ≡ true) (sym m.2) r.2)),
    (λ c. let w = (chain_is_walk net rules 1 here (name_of_end y)).0 c in by_choice w.0 w.1 w.2),
  )

some_bare : (net : List NodeDecl) (node : ℕ) (ls : List BareLeg) (o : Option NodeDecl) → slice_get net node ≡ o → option_map bare_legs o ≡ Some ls → (n : NodeDecl) × (slice_get net node ≡ Some n) × (bare_legs n ≡ ls)
some_bare net node ls None e f = cc
some_bare net node ls (Some n) e f = let s : bare_legs n ≡ ls = cc in (n, e, s)

-- segments give what their legs give
same_legs : (segs : List Seg) (a : ℕ) (y : End) → segs_give segs a y ≡ legs_give (map leg_view segs) a y
same_legs [] a y = refl
same_legs (s ∷ segs) a y = ap (λ b. seg_gives s a y || b) (same_legs segs a y)

pub legs_step : (net : List NodeDecl) → KeepsNodeRules net → (node : ℕ) (segs : List Seg) → option_map bare_legs (slice_get net node) ≡ Some (map leg_view segs) → (a : ℕ) (y : End) → (segs_give segs a y ≡ true) ↔ GoesIn net 1 node a y
legs_step net rules node segs e a y =
    let s = some_bare net node (map leg_view segs) (slice_get net node) refl e in
    means_along (segs_give segs a y) (legs_give (bare_legs s.0) a y) (same_legs segs a y ∙ ap (λ l. legs_give l a y) (sym s.2)) (one_step net rules node s.0 s.1 a y)
