-- What a node reaches, level by level: the names of a level are those that are reached in so many steps.
use Rattle.std.proofs.Common.{◌≡◌, ℕ, ◌+◌, ◌-◌, ◌<◌, ◌≤◌, ◌⊎◌, ◌↔◌, inl, inr, Bool, true, ◌&&◌, ◌||◌, nat_eq, List, [], ◌∷◌, length, slice_get, refl, sym, ap, ◌∙◌, subst, arith, lt-ltb}
use Rattle.std.proofs.lemmas.Bool.{or_cases, and_parts, and_from, false≢true}
use Rattle.dn_base.proofs.Orders.{cases_lt}
use Rattle.dn_base.proofs.Booleans.{or_left, or_right, or-false}
use Rattle.dn_interval.specs.declared.row.End.{End}
use Rattle.dn_interval.specs.declared.row.Row.{Row}
use Rattle.dn_interval.specs.declared.row.Seg.{Seg}
use Rattle.dn_interval.specs.declared.span.TheConstants.{TOP}
use Rattle.dn_interval.specs.Strands.{rows_give, seg_gives, segs_give}
use Rattle.dn_interval.specs.Onward.{rows_of}
use Rattle.dn_interval.proofs.Membership.{in_from}
use Rattle.dn_net.specs.declared.node.Name.{Name}
use Rattle.dn_net.specs.declared.node.NodeDecl.{NodeDecl}
use Rattle.dn_net.specs.Chain.{Ends, IsChain}
use Rattle.dn_net.specs.Decode.{Step, is_accepted, steps, step_limit}
use Rattle.dn_net.proofs.Stops.{stop_there}
use Rattle.dn_walk.specs.Ends.{name_of_end}
use Rattle.dn_flat.specs.declared.found.Continuation.TheVariants.{Stays}
use Rattle.dn_flat.specs.declared.levels.Levels.{Levels}
use Rattle.dn_flat.specs.declared.reach.Reach.{Reach}
use Rattle.dn_flat.specs.Firsts.{is_same}
use Rattle.dn_flat.specs.Levels.{AreLevels, AreStops, IsLevels, is_among, levels_give}
use Rattle.dn_flat.specs.Onward.{has_rows, leads_by, segs_lead}
use Rattle.dn_flat.specs.Stages.{AreReaches, EndsBefore, GoesIn, ReachesBefore}
use Rattle.dn_flat.proofs.Bounds.{limit_is}
use Rattle.dn_flat.proofs.Firsts.{same_from, same_means}
use Rattle.dn_flat.proofs.Going.{segs_from, segs_to}
use Rattle.dn_flat.proofs.Shown.{accepting_from}
use Rattle.dn_flat.proofs.There.{layers_there}

pub some_rows : (rows : List Row) (b : ℕ) (z : End) → rows_give rows b z ≡ true → has_rows rows ≡ true
some_rows [] b z e = absurd (false≢true e)
some_rows (r ∷ rs) b z e = lt-ltb 0 (length (r ∷ rs)) (omega arith)

-- the segments give to each address the names that it reaches in exactly so many steps
abbrev pub Goes : List NodeDecl → ℕ → ℕ → List Seg → Type 0
Goes net j node segs = (a : ℕ) (y : End) → a ≤ TOP → (segs_give segs a y ≡ true) ↔ GoesIn net j node a y

-- so far: levels for fewer than so many steps
pub record AreReached (net : List NodeDecl) (k node : ℕ) (levels : List (List Row)) : Type 0 where
  pub reached : (a : ℕ) (y : End) → a ≤ TOP → levels_give levels a y ≡ true → ReachesBefore (Step net) k (record { node = node; addr = a }) (name_of_end y)
  pub accepted : (a : ℕ) (y : End) → a ≤ TOP → EndsBefore net (is_accepted net) k node a y → levels_give levels a y ≡ true

pub none_reached : (net : List NodeDecl) (node : ℕ) → AreReached net 0 node []
none_reached net node = record {
  reached = λ a y low e. absurd (false≢true e);
  accepted = λ a y low h. let l : h.1.0 < 0 = h.1.1 in absurd (omega arith);
}

-- by no step an address of the node reaches itself alone

whole_gives : (node : ℕ) (s : Seg) (a : ℕ) (y : End) → s.node ≡ node → s.base ≡ 0 → s.span.lo ≡ 0 → s.span.hi ≡ TOP → a ≤ TOP → segs_give (s ∷ []) a y ≡ is_same node a y
whole_gives node s a y at base lo hi low =
    let there : s.base + (a - s.span.lo) ≡ a = omega arith in
    or-false (seg_gives s a y)
    ∙ (ap (λ t. t && (nat_eq s.node y.node && nat_eq (s.base + (a - s.span.lo)) y.base)) (in_from s.span a (omega arith) (omega arith))
    ∙ (ap (λ n. nat_eq n y.node && nat_eq (s.base + (a - s.span.lo)) y.base) at
    ∙ ap (λ n. nat_eq node y.node && nat_eq n y.base) there))

pub begun : (net : List NodeDecl) (node : ℕ) (s : Seg) (segs : List Seg) → s.node ≡ node → s.base ≡ 0 → s.span.lo ≡ 0 → s.span.hi ≡ TOP → segs ≡ s ∷ [] → Goes net 0 node segs
begun net node s segs at base lo hi n a y low =
    let same = ap (λ t. segs_give t a y) n ∙ whole_gives node s a y at base lo hi low in
    ((λ e. same_means node a y (sym same ∙ e)), (λ c. same ∙ same_from node a y c))

pub none_before : (net : List NodeDecl) (passes : Name → Bool) (node : ℕ) (segs : List Seg) (a : ℕ) (y : End) → segs ≡ [] → (segs_give segs a y ≡ true) ↔ EndsBefore net passes 0 node a y
none_before net passes node segs a y none = (
  (λ e. absurd (false≢true (sym (ap (λ s. segs_give s a y) none) ∙ e))),
  (λ h. let l : h.1.0 < 0 = h.1.1 in absurd (omega arith)),
)

-- one level more
module _ (net : List NodeDecl) (nodes : List Reach) (are : AreReaches net 1 nodes) (j node : ℕ) (segs : List Seg) (go : Goes net j node segs) (a : ℕ) (y : End) (low : a ≤ TOP) (old new : Bool) (is : new ≡ (old || segs_lead (leads_by Stays nodes) segs a y)) where
  abbrev here : Name
  here = record { node = node; addr = a }

  level_to : (old ≡ true → ReachesBefore (Step net) j here (name_of_end y)) → new ≡ true → ReachesBefore (Step net) (j + 1) here (name_of_end y)
  level_to was e = elim (or_cases old (segs_lead (leads_by Stays nodes) segs a y) (sym is ∙ e)) [
    | inl o ↦ (let h = was o in let l : h.0 < j = h.1 in (h.0, omega arith, h.2))
    | inr g ↦ (
        let r = segs_to (leads_by Stays nodes) a y segs g in
        let p = and_parts (has_rows (rows_of (λ (x : Reach). x.done.accepts) (slice_get nodes r.0.node))) (is_same r.0.node r.0.base y) r.2 in
        let c : IsChain (Step net) j here (name_of_end r.0) = (go a r.0 low).0 r.1 in
        (j, omega arith, subst (IsChain (Step net) j here) (same_means r.0.node r.0.base y p.1) c)
        )
  ]

  level_from : (EndsBefore net (is_accepted net) j node a y → old ≡ true) → EndsBefore net (is_accepted net) (j + 1) node a y → new ≡ true
  level_from was h = is ∙ by (cases_lt h.1.0 j)
    where
      last : h.1.0 ≡ j → segs_lead (leads_by Stays nodes) segs a y ≡ true
      last e =
          let c : IsChain (Step net) j here (name_of_end y) = subst (λ n. IsChain (Step net) n here (name_of_end y)) e h.1.2 in
          let some : has_rows (rows_of (λ (x : Reach). x.done.accepts) (slice_get nodes y.node)) ≡ true = some_rows _ y.base y (accepting_from net nodes are y h.0) in
          segs_from (leads_by Stays nodes) a y segs y ((go a y low).1 c) (and_from (has_rows (rows_of (λ (x : Reach). x.done.accepts) (slice_get nodes y.node))) (is_same y.node y.base y) some (same_from y.node y.base y refl))

      by : (h.1.0 < j) ⊎ (j ≤ h.1.0) → (old || segs_lead (leads_by Stays nodes) segs a y) ≡ true
      by (inl l) = or_left old (segs_lead (leads_by Stays nodes) segs a y) (was (h.0, (h.1.0, l, h.1.2)))
      by (inr l) = let m : h.1.0 < j + 1 = h.1.1 in or_right old (segs_lead (leads_by Stays nodes) segs a y) (last (omega arith))

pub more_reached : (net : List NodeDecl) (nodes : List Reach) → AreReaches net 1 nodes → (j node : ℕ) (segs : List Seg) → Goes net j node segs → (old new : List (List Row)) → ((a : ℕ) (y : End) → a ≤ TOP → levels_give new a y ≡ (levels_give old a y || segs_lead (leads_by Stays nodes) segs a y)) → AreReached net j node old → AreReached net (j + 1) node new
more_reached net nodes are j node segs go old new is was = record {
  reached = λ a y low. level_to net nodes are j node segs go a y low (levels_give old a y) (levels_give new a y) (is a y low) (was.reached a y low);
  accepted = λ a y low. level_from net nodes are j node segs go a y low (levels_give old a y) (levels_give new a y) (is a y low) (was.accepted a y low);
}

-- where fewer than so many steps are all, the levels so far are the levels of the node
pub all_levels : (net : List NodeDecl) (k node : ℕ) (levels : List (List Row)) → k ≤ 66 → ((passes : Name → Bool) (a : ℕ) (y : End) → a ≤ TOP → EndsBefore net passes k node a y ↔ Ends (steps net) passes step_limit (record { node = node; addr = a }) (name_of_end y)) → AreReached net k node levels → AreLevels net node levels
all_levels net k node levels few all are = record {
  reached = λ a y low e. let h = are.reached a y low e in let l : h.0 < k = h.1 in let s : step_limit ≡ 65 = limit_is in (h.0, omega arith, h.2);
  accepted = λ a y low h. are.accepted a y low ((all (is_accepted net) a y low).1 h);
}

-- and with layers of its stops they are what the node reaches
pub levels_are : (net : List NodeDecl) (node : ℕ) (levels : Levels) → AreLevels net node levels.reached → AreStops net node levels.stops → ((a : ℕ) (y : End) → a ≤ TOP → levels_give levels.stops a y ≡ true → is_among y.node levels.units ≡ true) → IsLevels net node levels
levels_are net node levels reached stops units = record {
  reached = reached;
  stops = stops;
  stops_within = layers_there (length net) levels.stops (λ a y low g. stop_there net (name_of_end y) ((stops a y low).0 g).0);
  units = units;
}
