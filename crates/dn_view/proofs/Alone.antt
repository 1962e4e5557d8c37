-- Where an admissible placement gives a buffer, no other address of an agent reaches the stop of the buffer's.
use Rattle.std.proofs.Common.{◌≡◌, ℕ, zero, suc, ◌+◌, ◌<◌, ◌⊎◌, inl, inr, List, [], slice_get, None, IsTrue, refl, ap, ◌∙◌, subst, arith}
use Rattle.dn_net.specs.declared.node.Name.{Name}
use Rattle.dn_net.specs.declared.node.NodeDecl.{NodeDecl}
use Rattle.dn_net.specs.Chain.{Member, IsChain}
use Rattle.dn_net.specs.Decode.{is_accepted, is_agent_at, StopsAt}
use Rattle.dn_net.specs.Legal.{IsLegalNet}
use Rattle.dn_net.proofs.Chains.{chain_join}
use Rattle.dn_kind.specs.declared.rights.Access.{Access}
use Rattle.dn_kind.specs.Rights.{allows, are_rights}
use Rattle.dn_kind.specs.Tables.{Held, steps_under, StepUnder, ResolvesUnder, AreHeld, allowing}
use Rattle.dn_kind.proofs.Bounds.{reach_under_is_within}
use Rattle.dn_kind.proofs.Ways.{allowing_held, legal_one_way_to_unit, ends_here}
use Rattle.dn_tables.specs.Placement.{Place}
use Rattle.dn_placement.specs.declared.request.Request.{Request}
use Rattle.dn_placement.specs.Exposure.{Adds, IsAdmissible}
use Rattle.dn_placement.specs.Placement.{name_on, IsPlacement}
use Rattle.dn_placement.specs.Records.{joined_records, placed_records}
use Rattle.dn_placement.specs.Slots.{Slots}
use Rattle.dn_view.proofs.AddedRights.{some_allowed}
use Rattle.dn_view.proofs.Exposed.{placement_fits, unreached}
use Rattle.dn_view.proofs.Taken.{or_is, placed_are_held}
use Rattle.dn_view.proofs.Ways.{net_chain, stop_not_accepted}

module _ (net : List NodeDecl) (legal : IsLegalNet net) (h : Held) where
  -- what a name resolves to it comes to by its stop
  stop_between : (x t y : Name) → StopsAt net x t → ResolvesUnder net h x y → (d : ℕ) × IsChain (StepUnder net h) d t y
  stop_between x t y st r = by (legal_one_way_to_unit net h legal x t y st.1.0 r.1.0 st.0 (net_chain net legal h st.1.0 x t st.1.2) r.1.2)
    where
      back : (d : ℕ) → IsChain (StepUnder net h) d y t → ⊥
      back zero c = stop_not_accepted net legal t st.0 (subst (λ n. IsTrue (is_accepted net n)) c r.0)
      back (suc d) c = let e : steps_under net h y ≡ [] = ends_here net h legal.is_net.formed y r.0 in absurd (subst (λ l. Member c.0 l) e c.1)

      by : ((d : ℕ) × (st.1.0 ≡ r.1.0 + d) × IsChain (StepUnder net h) d y t) ⊎ ((d : ℕ) × (r.1.0 ≡ st.1.0 + d) × IsChain (StepUnder net h) d t y) → (d : ℕ) × IsChain (StepUnder net h) d t y
      by (inl k) = absurd (back k.0 k.2)
      by (inr k) = (k.0, k.2)

  -- and what goes on from its stop it resolves to
  by_stop : AreHeld net h → (x t y : Name) → StopsAt net x t → IsTrue (is_accepted net y) → (d : ℕ) → IsChain (StepUnder net h) d t y → ResolvesUnder net h x y
  by_stop held x t y st is d c = (is, reach_under_is_within net h legal held x y (st.1.0 + d, chain_join (StepUnder net h) st.1.0 d x t y (net_chain net legal h st.1.0 x t st.1.2) c))

pub reached_alone : (net : List NodeDecl) (slots : Slots) (rq : Request) (p : Place) → IsLegalNet net → AreHeld net slots.held → IsTrue (are_rights rq.rights) → ((node slot : ℕ) → IsTrue (slots.is_free node slot) → slots.held node slot ≡ None) → IsTrue (is_agent_at (slice_get net rq.agent)) → IsPlacement net slots rq p → IsAdmissible net slots.held rq p → (i : ℕ) → i < rq.size → (t w : Name) → StopsAt net (name_on rq.agent p.v i) t → IsTrue (is_agent_at (slice_get net w.node)) → StopsAt net w t → w ≡ name_on rq.agent p.v i
reached_alone net slots rq p legal held are empty agent is gives i l t w st is_agent st' = by ((gives access w z is_agent).0 there)
  where
    some : (access : Access) × IsTrue (allows rq.rights access)
    some = some_allowed rq.rights are

    access : Access
    access = some.0

    old : Held
    old = allowing access slots.held

    all : Held
    all = allowing access (joined_records slots.held (placed_records net rq p))

    old_held : AreHeld net old
    old_held = allowing_held net slots.held access held

    all_held : AreHeld net all
    all_held = allowing_held net (joined_records slots.held (placed_records net rq p)) access (λ node slot r e. or_is (slots.held node slot) (placed_records net rq p node slot) (λ u f. held node slot u f) (λ u f. placed_are_held net rq p legal.shapes (placement_fits net slots rq p are is) node slot u f) r e)

    x : Name
    x = name_on rq.agent p.v i

    z : Name
    z = name_on rq.node rq.base i

    adds : Adds rq p.v x z
    adds = record { i = i; below = l; from = refl; to = refl }

    here : ResolvesUnder net all x z
    here = (gives access x z agent).1 (inr (some.1, adds))

    on : (d : ℕ) × IsChain (StepUnder net all) d t z
    on = stop_between net legal all x t z st here

    there : ResolvesUnder net all w z
    there = by_stop net legal all all_held w t z st' here.0 on.0 on.1

    by : ResolvesUnder net old w z ⊎ (IsTrue (allows rq.rights access) × Adds rq p.v w z) → w ≡ name_on rq.agent p.v i
    by (inl r) =
        let c = stop_between net legal old w t z st' r in
        absurd (unreached net slots rq access legal old_held empty p is (placed_records net rq p) all_held x z z adds (by_stop net legal old old_held x t z st r.0 c.0 c.1))
    by (inr k) =
        let a : Adds rq p.v w z = k.1 in
        let same : rq.base + i ≡ rq.base + a.i = ap (λ (n : Name). n.addr) a.to in
        a.from ∙ ap (λ n. name_on rq.agent p.v n) (let e : a.i ≡ i = omega (arith, same) in e)
