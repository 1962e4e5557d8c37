-- Which agents are asked: where these show newly what is asked for, every agent does.
use Rattle.std.proofs.Common.{◌≡◌, ℕ, ◌+◌, ◌<◌, ◌⊎◌, ◌↔◌, inl, inr, Bool, true, false, nat_eq, List, [], length, get_or, slice_get, slice_index_or, IsTrue, refl, sym, ap, ◌∙◌, subst, eqb-true, eq-eqb}
use Rattle.std.specs.List.{All, list_any}
use Rattle.std.specs.Prelude.{is_some}
use Rattle.std.proofs.lemmas.List.{get_or_default}
use Rattle.dn_base.proofs.Booleans.{and_left, or_cases}
use Rattle.dn_base.proofs.Members.{any_member, member_any, member_of_all}
use Rattle.dn_net.specs.declared.node.NodeDecl.{NodeDecl}
use Rattle.dn_net.specs.Decode.{is_agent_at, unit_at}
use Rattle.dn_net.specs.Legal.{IsLegalNet}
use Rattle.dn_net.proofs.Stops.{agent_there}
use Rattle.dn_walk.proofs.UnitRows.{unit_there}
use Rattle.dn_kind.specs.declared.rights.Access.{Access}
use Rattle.dn_kind.specs.Rights.{allows}
use Rattle.dn_kind.specs.Tables.{Held}
use Rattle.dn_flat.specs.Levels.{AreFlats, FlatsView, is_among, leads_to_units, is_listed_for, units_in}
use Rattle.dn_tables.specs.declared.placement.Hop.{Hop}
use Rattle.dn_tables.specs.Placement.{Place}
use Rattle.dn_placement.specs.declared.request.Request.{Request}
use Rattle.dn_view.specs.Exact.{IsExactAt}
use Rattle.dn_view.specs.Records.{IsFitted}
use Rattle.dn_view.specs.Untouched.{can_meet, has_hop}
use Rattle.dn_view.proofs.Agents.{Agent, Among, place_more}
use Rattle.dn_view.proofs.Unmet.{untouched}

-- the agents in the lists of the units of one hop more
pub more_hops : (net : List NodeDecl) (P : ℕ → Type 0) (lists : List (List ℕ)) (hops : List Hop) (i : ℕ) (e : Hop) (nodes : List ℕ) (b : Bool) → i < length hops → nodes ≡ slice_index_or lists (get_or hops i e).unit [] → b ≡ true → ((b ≡ true) ↔ Among net P nodes) → ((k : ℕ) (d : Hop) → k < i → Among net P (slice_index_or lists (get_or hops k d).unit [])) → (k : ℕ) (d : Hop) → k < i + 1 → Among net P (slice_index_or lists (get_or hops k d).unit [])
more_hops net P lists hops i e nodes b l from holds is so_far k d m =
    let listed : Hop → Type 0 = λ g. Among net P (slice_index_or lists g.unit []) in
    place_more listed hops d i (λ j n. so_far j d n) (subst listed (get_or_default hops i e d l) (subst (Among net P) from (is.0 holds))) k m

module _ (net : List NodeDecl) (legal : IsLegalNet net) (flats : FlatsView) (are : AreFlats net flats) (rq : Request) (p : Place) (access : Access) (h : Held) where
  abbrev Exact : ℕ → Type 0
  Exact node = IsExactAt net h rq p access node

  -- the request's agent, the agents that see names of a unit that leads on, and those in the lists of the hops' units
  pub all_asked : Agent net Exact rq.agent → Among net Exact flats.seers.onward → ((k : ℕ) (d : Hop) → k < length p.hops → Among net Exact (slice_index_or flats.seers.by_unit (get_or p.hops k d).unit [])) → All (IsFitted net rq.size) p.hops → (true ≡ true) ↔ ((m : ℕ) → Agent net Exact m)
  all_asked own onward seen fitted = ((λ e m agent. each m agent (nat_eq m rq.agent) refl), (λ all. refl))
    where
      -- an agent that sees names of a unit with a hop, or of one that leads on, is in a list
      met : (m u : ℕ) → IsTrue (is_agent_at (slice_get net m)) → is_among u (units_in (slice_get flats.nodes m)) ≡ true → (has_hop p.hops u ≡ true) ⊎ (leads_to_units flats.nodes (unit_at net u) ≡ true) → Exact m
      met m u agent there (inr leads) = onward m ((are.seers.listed.each m (agent_there net m agent) agent).leading u there (are.seers.leads u ∙ leads)) agent
      met m u agent there (inl some) =
          let f = any_member (λ (hop : Hop). nat_eq u hop.unit) p.hops some in
          let fit : IsFitted net rq.size f.0 = member_of_all (IsFitted net rq.size) p.hops f.0 fitted f.1 in
          let listed : Among net Exact (slice_index_or flats.seers.by_unit f.0.unit []) = member_of_all (λ (hop : Hop). Among net Exact (slice_index_or flats.seers.by_unit hop.unit [])) p.hops f.0 seen f.1 in
          let same : u ≡ f.0.unit = eqb-true u f.0.unit f.2 in
          let within : f.0.unit < length flats.seers.by_unit = subst (λ n. f.0.unit < n) (sym are.seers.listed.every) (unit_there net f.0.unit (ap is_some fit.is_unit)) in
          elim (or_cases (is_among m flats.seers.onward) (is_listed_for flats.seers.by_unit f.0.unit m) ((are.seers.listed.each m (agent_there net m agent) agent).each f.0.unit within (subst (λ n. is_among n (units_in (slice_get flats.nodes m)) ≡ true) same there))) [
            | inl k ↦ onward m k agent
            | inr k ↦ listed m k agent
          ]

      other : (m : ℕ) → IsTrue (is_agent_at (slice_get net m)) → nat_eq m rq.agent ≡ false → (b : Bool) → list_any (can_meet net flats p.hops) (units_in (slice_get flats.nodes m)) ≡ b → Exact m
      other m agent e false none = untouched net legal flats are rq p access h m (subst (λ n. m < n) (sym are.every) (agent_there net m agent)) (and_left (nat_eq m rq.agent) (allows rq.rights access) e) none
      other m agent e true some =
          let f = any_member (can_meet net flats p.hops) (units_in (slice_get flats.nodes m)) some in
          met m f.0 agent (member_any (λ n. nat_eq n f.0) (units_in (slice_get flats.nodes m)) f.0 f.1 (eq-eqb f.0 f.0 refl)) (or_cases (has_hop p.hops f.0) (leads_to_units flats.nodes (unit_at net f.0)) f.2)

      each : (m : ℕ) → IsTrue (is_agent_at (slice_get net m)) → (b : Bool) → nat_eq m rq.agent ≡ b → Exact m
      each m agent true e = subst (Agent net Exact) (sym (eqb-true m rq.agent e)) own agent
      each m agent false e = other m agent e (list_any (can_meet net flats p.hops) (units_in (slice_get flats.nodes m))) refl
