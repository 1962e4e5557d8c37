-- Segments that give what is reached in so many steps, and what their names come to in one step more.
use Rattle.std.proofs.Common.{◌≡◌, ℕ, ◌+◌, ◌<◌, ◌≤◌, ◌↔◌, Bool, true, ◌||◌, List, length, slice_get, Option, Some, None, refl, sym, ap, ◌∙◌, arith}
use Rattle.std.proofs.lemmas.Bool.{false≢true}
use Rattle.std.proofs.lemmas.Option.{slice_get-get_or}
use Rattle.dn_interval.specs.declared.row.End.{End}
use Rattle.dn_interval.specs.declared.row.Row.{Row}
use Rattle.dn_interval.specs.declared.row.Seg.{Seg}
use Rattle.dn_interval.specs.declared.span.TheConstants.{TOP}
use Rattle.dn_interval.specs.Rows.{AreNormal, GivenBy}
use Rattle.dn_interval.specs.Strands.{rows_give, segs_give}
use Rattle.dn_interval.specs.Onward.{gives_by, rows_of}
use Rattle.dn_interval.proofs.Names.{rows_from, rows_to, segs_fit}
use Rattle.dn_net.specs.declared.node.NodeDecl.{NodeDecl}
use Rattle.dn_net.specs.Decode.{is_stop}
use Rattle.dn_net.specs.Rules.{KeepsNodeRules}
use Rattle.dn_walk.specs.Ends.{name_of_end}
use Rattle.dn_flat.specs.declared.found.Continuation.TheVariants.{Goes as Onward, Stops}
use Rattle.dn_flat.specs.declared.reach.Reach.{Reach}
use Rattle.dn_flat.specs.Onward.{leads_by, segs_lead}
use Rattle.dn_flat.specs.Stages.{AreReaches, EndsBefore, GoesIn}
use Rattle.dn_flat.proofs.Going.{segs_from, segs_to}
use Rattle.dn_flat.proofs.Reached.{Goes}
use Rattle.dn_flat.proofs.Shown.{given_low, no_reach}
use Rattle.dn_flat.proofs.Sums.{ends_by, go_sum}
use Rattle.dn_flat.proofs.There.{chain_is_there}

module _ (net : List NodeDecl) (rules : KeepsNodeRules net) (nodes : List Reach) (are : AreReaches net 1 nodes) (j node : ℕ) (there : node < length net) (segs : List Seg) (go : Goes net j node segs) where
  -- names go on by rows of their nodes

  module _ (f : Reach → List Row) (G : ℕ → ℕ → End → Type 0) (each : (m : ℕ) (r : Reach) → slice_get nodes m ≡ Some r → AreNormal (G m) (f r)) where
    next_to : (n b : ℕ) (z : End) → gives_by f nodes n b z ≡ true → G n b z
    next_to n b z e = by (slice_get nodes n) refl e
      where
        by : (o : Option Reach) → slice_get nodes n ≡ o → rows_give (rows_of f o) b z ≡ true → G n b z
        by None at g = absurd (false≢true g)
        by (Some r) at g =
            let h : GivenBy (f r) b z = rows_to (f r) b z g in
            ((each n r at).exact b z (given_low (f r) b z h)).1 h

    next_from : (n b : ℕ) (z : End) → n < length net → b ≤ TOP → G n b z → gives_by f nodes n b z ≡ true
    next_from n b z l low h =
        let every : length nodes ≡ length net = are.every in
        let at = slice_get-get_or nodes n no_reach (omega arith) in
        ap (λ o. rows_give (rows_of f o) b z) at ∙ rows_from _ b z (((each n _ at).exact b z low).0 h)

    goes_by : (a : ℕ) (z : End) → a ≤ TOP → (segs_lead (gives_by f nodes) segs a z ≡ true) ↔ ((y : End) × GoesIn net j node a y × G y.node y.base z)
    goes_by a z low = (
      (λ e. let r = segs_to (gives_by f nodes) a z segs e in (r.0, (go a r.0 low).0 r.1, next_to r.0.node r.0.base z r.2)),
      (λ h.
          let g : segs_give segs a h.0 ≡ true = (go a h.0 low).1 h.1 in
          let l = chain_is_there net rules j (record { node = node; addr = a }) (name_of_end h.0) there h.1 in
          segs_from (gives_by f nodes) a z segs h.0 g (next_from h.0.node h.0.base z l (segs_fit segs a h.0 g) h.2)),
    )

  -- what is reached in one step more
  pub goes_further : (new : Bool) (a : ℕ) (z : End) → a ≤ TOP → new ≡ segs_lead (leads_by Onward nodes) segs a z → (new ≡ true) ↔ GoesIn net (j + 1) node a z
  goes_further new a z low is =
      let c = goes_by (λ (r : Reach). r.go) (GoesIn net 1) (λ m r e. (are.each m r e).go) a z low in
      let s = go_sum net j 1 node a z in
      ((λ e. s.0 (c.0 (sym is ∙ e))), (λ h. is ∙ c.1 (s.1 h)))

  -- and the names in units in fewer steps than one more
  pub stops_further : (old new : Bool) (a : ℕ) (z : End) → a ≤ TOP → ((old ≡ true) ↔ EndsBefore net (is_stop net) j node a z) → new ≡ (old || segs_lead (leads_by Stops nodes) segs a z) → (new ≡ true) ↔ EndsBefore net (is_stop net) (j + 1) node a z
  stops_further old new a z low was is =
      ends_by net j 1 node a z (is_stop net) old new (segs_lead (leads_by Stops nodes) segs a z)
      (goes_by (λ (r : Reach). r.done.stops) (EndsBefore net (is_stop net) 1) (λ m r e. (are.each m r e).done.stops) a z low) was is
