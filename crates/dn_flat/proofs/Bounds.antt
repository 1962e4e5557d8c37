-- Chains of fewer than so many steps, where none is longer: resolution, and the stops.
use Rattle.std.proofs.Common.{◌≡◌, ℕ, ◌<◌, ◌≤◌, ◌↔◌, inl, inr, Bool, true, List, [], refl, sym, ap, ◌∙◌, length, arith}
use Rattle.std.proofs.lemmas.Bool.{false≢true}
use Rattle.dn_base.proofs.Orders.{cases_lt}
use Rattle.dn_interval.specs.declared.row.End.{End}
use Rattle.dn_interval.specs.declared.row.Seg.{Seg}
use Rattle.dn_interval.specs.declared.span.TheConstants.{TOP}
use Rattle.dn_interval.specs.Rows.{AreNormal}
use Rattle.dn_interval.specs.Strands.{segs_give}
use Rattle.dn_net.specs.declared.node.Name.{Name}
use Rattle.dn_net.specs.declared.node.NodeDecl.{NodeDecl}
use Rattle.dn_net.specs.Chain.{IsChain, Ends}
use Rattle.dn_net.specs.Decode.{Step, steps, step_limit}
use Rattle.dn_net.proofs.Chains.{chain_front}
use Rattle.dn_net.proofs.Stops.{stop_there}
use Rattle.dn_walk.specs.Ends.{end_of, name_of_end}
use Rattle.dn_flat.specs.declared.flat.Flat.{Flat}
use Rattle.dn_flat.specs.Stages.{EndsBefore, GoesIn, IsFlat}
use Rattle.dn_flat.specs.Views.{ResolvesFrom, StopsFrom}
use Rattle.dn_flat.proofs.There.{names_are_there, accepted_is_there}

pub limit_is : step_limit ≡ 65
unfolding step_limit
limit_is = refl

module _ (net : List NodeDecl) (passes : Name → Bool) (k node a : ℕ) (y : End) where
  abbrev here : Name
  here = record { node = node; addr = a }

  ends_are : ((j : ℕ) → j < k → IsChain (Step net) j here (name_of_end y) → j ≤ 65) → ((j : ℕ) → j ≤ 65 → IsChain (Step net) j here (name_of_end y) → j < k) → EndsBefore net passes k node a y ↔ Ends (steps net) passes step_limit here (name_of_end y)
  ends_are short long =
      let e : step_limit ≡ 65 = limit_is in (
        (λ h. let l : h.1.0 ≤ 65 = short h.1.0 h.1.1 h.1.2 in (h.0, (h.1.0, omega arith, h.1.2))),
        (λ h. let l : h.1.0 ≤ step_limit = h.1.1 in (h.0, (h.1.0, long h.1.0 (omega arith) h.1.2, h.1.2))),
      )

  -- after 66 levels
  pub last_level : k ≡ 66 → EndsBefore net passes k node a y ↔ Ends (steps net) passes step_limit here (name_of_end y)
  last_level e = ends_are (λ j l c. omega arith) (λ j l c. omega arith)

  -- where nothing goes on for so many steps
  long_ends : ((z : Name) → IsChain (Step net) k here z → ⊥) → (j : ℕ) → j ≤ 65 → IsChain (Step net) j here (name_of_end y) → j < k
  long_ends none j l c = elim (cases_lt j k) [ inl m ↦ m | inr m ↦ (let f = chain_front (Step net) k j here (name_of_end y) m c in absurd (none f.0 f.1)) ]

  pub ended_level : k ≤ 66 → ((z : Name) → IsChain (Step net) k here z → ⊥) → EndsBefore net passes k node a y ↔ Ends (steps net) passes step_limit here (name_of_end y)
  ended_level m none = ends_are (λ j l c. omega arith) (long_ends none)

-- segments that are none say that nothing goes on
pub none_goes : (net : List NodeDecl) (k node : ℕ) (segs : List Seg) → segs ≡ [] → ((a : ℕ) (y : End) → a ≤ TOP → (segs_give segs a y ≡ true) ↔ GoesIn net k node a y) → (a : ℕ) → a ≤ TOP → (z : Name) → IsChain (Step net) k (record { node = node; addr = a }) z → ⊥
none_goes net k node segs e go a low z c = false≢true (sym (ap (λ s. segs_give s a (end_of z)) e) ∙ (go a (end_of z) low).1 c)

-- rows of what a node resolves to, and of its stops, are its flattened view
pub flat_is : (net : List NodeDecl) (node : ℕ) (flat : Flat) → AreNormal (ResolvesFrom net node) flat.accepts → AreNormal (StopsFrom net node) flat.stops → IsFlat net node flat
flat_is net node flat accepts stops = record {
  accepts = accepts;
  stops = stops;
  within = names_are_there (length net) (ResolvesFrom net node) flat.accepts accepts (λ a y f. accepted_is_there net (name_of_end y) f.0);
  stops_within = names_are_there (length net) (StopsFrom net node) flat.stops stops (λ a y f. stop_there net (name_of_end y) f.0);
}
