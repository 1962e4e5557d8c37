-- Rows of what is reached in j steps, whose names go on by the rows for k steps, are what is reached in j + k.
use Rattle.std.proofs.Common.{◌≡◌, ℕ, ◌+◌, ◌-◌, ◌≤◌, ◌⊎◌, ◌↔◌, inl, inr, Bool, true, false, ◌&&◌, ◌||◌, List, length, slice_get, Some, sym, ap, ◌∙◌, arith, All}
use Rattle.std.proofs.lemmas.Bool.{or_cases}
use Rattle.dn_base.proofs.Booleans.{or_left, or_right}
use Rattle.dn_interval.specs.declared.row.End.{End}
use Rattle.dn_interval.specs.declared.row.Row.{Row}
use Rattle.dn_interval.specs.declared.row.Seg.{Seg}
use Rattle.dn_interval.specs.declared.span.TheConstants.{TOP}
use Rattle.dn_interval.specs.Rows.{AreNormal, SegmentsGive, EndsFit, ends_within}
use Rattle.dn_interval.specs.Strands.{segs_give, rows_give}
use Rattle.dn_interval.specs.Onward.{seg_goes, rows_go, gives_by}
use Rattle.dn_interval.proofs.Goes.{composed}
use Rattle.dn_interval.proofs.Membership.{in_from}
use Rattle.dn_interval.proofs.Names.{segs_from, segs_to, rows_from, rows_to}
use Rattle.dn_interval.proofs.Normal.{normal_like}
use Rattle.dn_net.specs.declared.node.Name.{Name}
use Rattle.dn_net.specs.declared.node.NodeDecl.{NodeDecl}
use Rattle.dn_net.specs.Decode.{Step, is_accepted, is_stop}
use Rattle.dn_net.proofs.Chains.{chain_join}
use Rattle.dn_walk.specs.Ends.{end_of, name_of_end}
use Rattle.dn_flat.specs.declared.reach.Reach.{Reach}
use Rattle.dn_flat.specs.Stages.{EndsBefore, GoesIn, AreReaches}
use Rattle.dn_flat.proofs.Chains.{parted, before_sum}

module _ (net : List NodeDecl) (j k node a : ℕ) (z : End) where
  abbrev here : Name
  here = record { node = node; addr = a }

  pub go_sum : ((y : End) × GoesIn net j node a y × GoesIn net k y.node y.base z) ↔ GoesIn net (j + k) node a z
  go_sum = (
    (λ h. chain_join (Step net) j k here (name_of_end h.0) (name_of_end z) h.1 h.2),
    (λ c. let p = parted (Step net) j k here (name_of_end z) c in (end_of p.0, p.1, p.2)),
  )

  pub ends_sum : (passes : Name → Bool) → (EndsBefore net passes j node a z ⊎ ((y : End) × GoesIn net j node a y × EndsBefore net passes k y.node y.base z)) ↔ EndsBefore net passes (j + k) node a z
  ends_sum passes =
      let s = before_sum (Step net) j k here (name_of_end z) in (
        (λ h. elim h [ inl b ↦ (b.0, s.0 (inl b.1)) | inr b ↦ (b.2.0, s.0 (inr (name_of_end b.0, b.1, b.2.1))) ]),
        (λ h. elim (s.1 h.1) [ inl b ↦ inl (h.0, b) | inr b ↦ inr (end_of b.0, b.1, (h.0, b.2)) ]),
      )

  -- what is reached in fewer than j steps, and what names that are reached in j come to in fewer than k
  pub ends_by : (passes : Name → Bool) (old new more : Bool) → ((more ≡ true) ↔ ((y : End) × GoesIn net j node a y × EndsBefore net passes k y.node y.base z)) → ((old ≡ true) ↔ EndsBefore net passes j node a z) → new ≡ (old || more) → (new ≡ true) ↔ EndsBefore net passes (j + k) node a z
  ends_by passes old new more on was is = (to, from)
    where
      to : new ≡ true → EndsBefore net passes (j + k) node a z
      to e = by (or_cases old more (sym is ∙ e))
        where
          by : (old ≡ true) ⊎ (more ≡ true) → EndsBefore net passes (j + k) node a z
          by (inl o) = (ends_sum passes).0 (inl (was.0 o))
          by (inr o) = (ends_sum passes).0 (inr (on.0 o))

      from : EndsBefore net passes (j + k) node a z → new ≡ true
      from h = is ∙ by ((ends_sum passes).1 h)
        where
          by : EndsBefore net passes j node a z ⊎ ((y : End) × GoesIn net j node a y × EndsBefore net passes k y.node y.base z) → (old || more) ≡ true
          by (inl b) = or_left old more (was.1 b)
          by (inr b) = or_right old more (on.1 b)

module _ (net : List NodeDecl) (k : ℕ) (nodes : List Reach) (are : AreReaches net k nodes) (j node : ℕ) (rows : List Row) (normal : AreNormal (GoesIn net j node) rows) (fit : All EndsFit rows) (there : ends_within (length nodes) rows ≡ true) where
  -- where the rows go on by the rows for k steps
  pub goes_on : (old new : Bool) (a : ℕ) (z : End) → a ≤ TOP → old ≡ false → new ≡ (old || rows_go (gives_by (λ (r : Reach). r.go) nodes) rows a z) → (new ≡ true) ↔ GoesIn net (j + k) node a z
  goes_on old new a z low none is =
      let c = composed (λ (r : Reach). r.go) nodes (GoesIn net k) (λ m r e. (are.each m r e).go) (GoesIn net j node) rows normal fit there a z low in
      let s = go_sum net j k node a z in
      let same : new ≡ rows_go (gives_by (λ (r : Reach). r.go) nodes) rows a z = is ∙ ap (λ t. t || rows_go (gives_by (λ (r : Reach). r.go) nodes) rows a z) none in
      ((λ e. s.0 (c.0 (sym same ∙ e))), (λ h. same ∙ c.1 (s.1 h)))

  -- what they come to by the rows for fewer than k steps, beside what is reached in fewer than j
  ends_on : (passes : Name → Bool) (f : Reach → List Row) → ((m : ℕ) (r : Reach) → slice_get nodes m ≡ Some r → AreNormal (EndsBefore net passes k m) (f r)) → (old new : Bool) (a : ℕ) (z : End) → a ≤ TOP → ((old ≡ true) ↔ EndsBefore net passes j node a z) → new ≡ (old || rows_go (gives_by f nodes) rows a z) → (new ≡ true) ↔ EndsBefore net passes (j + k) node a z
  ends_on passes f each old new a z low was is = ends_by net j k node a z passes old new (rows_go (gives_by f nodes) rows a z) (composed f nodes (EndsBefore net passes k) each (GoesIn net j node) rows normal fit there a z low) was is

  pub accepts_on : (old new : Bool) (a : ℕ) (z : End) → a ≤ TOP → ((old ≡ true) ↔ EndsBefore net (is_accepted net) j node a z) → new ≡ (old || rows_go (gives_by (λ (r : Reach). r.done.accepts) nodes) rows a z) → (new ≡ true) ↔ EndsBefore net (is_accepted net) (j + k) node a z
  accepts_on = ends_on (is_accepted net) (λ (r : Reach). r.done.accepts) (λ m r e. (are.each m r e).done.accepts)

  pub stops_on : (old new : Bool) (a : ℕ) (z : End) → a ≤ TOP → ((old ≡ true) ↔ EndsBefore net (is_stop net) j node a z) → new ≡ (old || rows_go (gives_by (λ (r : Reach). r.done.stops) nodes) rows a z) → (new ≡ true) ↔ EndsBefore net (is_stop net) (j + k) node a z
  stops_on = ends_on (is_stop net) (λ (r : Reach). r.done.stops) (λ m r e. (are.each m r e).done.stops)

-- rows are normal for what their segments give
pub normal_of : (f : ℕ → End → Type 0) (segs : List Seg) (rows : List Row) → ((a : ℕ) (y : End) → a ≤ TOP → (segs_give segs a y ≡ true) ↔ f a y) → AreNormal (SegmentsGive segs) rows → AreNormal f rows
normal_of f segs rows same n = normal_like (SegmentsGive segs) f rows (λ a y t. ((λ m. (same a y t).0 (segs_from segs a y m)), (λ h. segs_to segs a y ((same a y t).1 h)))) n

-- all addresses of a node, by its rows: what these give
pub whole_goes : (s : Seg) (rows : List Row) (a : ℕ) (z : End) → s.base ≡ 0 → s.span.lo ≡ 0 → s.span.hi ≡ TOP → a ≤ TOP → seg_goes rows s a z ≡ rows_give rows a z
whole_goes s rows a z base lo hi low =
    let at : s.base + (a - s.span.lo) ≡ a = omega arith in
    ap (λ t. t && rows_give rows (s.base + (a - s.span.lo)) z) (in_from s.span a (omega arith) (omega arith)) ∙ ap (λ n. rows_give rows n z) at

pub begun_by : (f : ℕ → End → Type 0) (s : Seg) (rows : List Row) (old new : Bool) (a : ℕ) (z : End) → AreNormal f rows → s.base ≡ 0 → s.span.lo ≡ 0 → s.span.hi ≡ TOP → a ≤ TOP → old ≡ false → new ≡ (old || seg_goes rows s a z) → (new ≡ true) ↔ f a z
begun_by f s rows old new a z n base lo hi low none is =
    let same : new ≡ rows_give rows a z = is ∙ ap (λ t. t || seg_goes rows s a z) none ∙ whole_goes s rows a z base lo hi low in
    ((λ e. (n.exact a z low).1 (rows_to rows a z (sym same ∙ e))), (λ h. same ∙ rows_from rows a z ((n.exact a z low).0 h)))
