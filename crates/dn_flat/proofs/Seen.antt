-- Which agents are in the lists of units.
use Rattle.std.proofs.Common.{◌≡◌, ℕ, ◌+◌, ◌<◌, ◌≤◌, ◌⊎◌, inl, inr, Bool, true, false, ◌&&◌, ◌||◌, nat_eq, List, ◌∷◌, [], ◌++◌, length, get_or, slice_get, slice_index_or, Result, Ok, Err, OnOk, IsTrue, refl, sym, ap, ◌∙◌, subst, arith, eqb-true, eq-eqb}
use Rattle.std.specs.List.{list_any}
use Rattle.std.proofs.lemmas.Bool.{and_from, cases_lt, false≢true, or_cases, or_left, or_right}
use Rattle.std.proofs.lemmas.List.{get_or_past}
use Rattle.std.proofs.lemmas.Option.{slice_get_past}
use Rattle.dn_base.proofs.Members.{any_member, member_any, member_none}
use Rattle.dn_net.specs.declared.node.NodeDecl.{NodeDecl}
use Rattle.dn_net.specs.Decode.{is_agent_at, unit_at, unit_of}
use Rattle.dn_flat.specs.declared.levels.Levels.{Levels}
use Rattle.dn_flat.specs.Levels.{AreListed, AreSeers, IsAgentListed, is_among, leads_to_units, is_listed_for, units_in}
use Rattle.dn_flat.proofs.Among.{last_among, still_among}

-- what is told of each node that is there is told of every number
pub all_lead : (net : List NodeDecl) (nodes : List Levels) (leads : List Bool) → length net ≤ length leads → ((n : ℕ) → n < length leads → get_or leads n false ≡ leads_to_units nodes (unit_at net n)) → (n : ℕ) → get_or leads n false ≡ leads_to_units nodes (unit_at net n)
all_lead net nodes leads least each n = by (cases_lt n (length leads))
  where
    by : (n < length leads) ⊎ (length leads ≤ n) → get_or leads n false ≡ leads_to_units nodes (unit_at net n)
    by (inl l) = each n l
    by (inr l) = get_or_past leads n false l ∙ ap (λ o. leads_to_units nodes (unit_of o)) (sym (slice_get_past net n (omega (arith, least, l))))

module _ (leads : List Bool) where
  -- the list of the agents that see names of a unit that leads on, with one more
  pub kept_onward : (by_unit : List (List ℕ)) (onward : List ℕ) (agent n : ℕ) (units : List ℕ) → IsAgentListed leads by_unit onward n units → IsAgentListed leads by_unit (onward ++ agent ∷ []) n units
  kept_onward by_unit onward agent n units is = record {
    each = λ u l e. elim (or_cases (is_among n onward) (is_listed_for by_unit u n) (is.each u l e)) [
      | inl h ↦ or_left (is_among n (onward ++ agent ∷ [])) (is_listed_for by_unit u n) (still_among onward agent n h)
      | inr h ↦ or_right (is_among n (onward ++ agent ∷ [])) (is_listed_for by_unit u n) h
    ];
    leading = λ u e f. still_among onward agent n (is.leading u e f);
  }

  pub in_onward : (by_unit : List (List ℕ)) (onward : List ℕ) (agent : ℕ) (units : List ℕ) → IsAgentListed leads by_unit (onward ++ agent ∷ []) agent units
  in_onward by_unit onward agent units = record {
    each = λ u l e. or_left (is_among agent (onward ++ agent ∷ [])) (is_listed_for by_unit u agent) (last_among onward agent);
    leading = λ u e f. last_among onward agent;
  }

  -- the lists of some units, with one agent more
  abbrev pub Grown : List (List ℕ) → List (List ℕ) → ℕ → List ℕ → Type 0
  Grown old new agent units = (u n : ℕ) → u < length old → is_listed_for new u n ≡ (is_listed_for old u n || list_any (λ unit. nat_eq unit u && nat_eq agent n) units)

  kept_grown : (old new : List (List ℕ)) (onward : List ℕ) (agent : ℕ) (units : List ℕ) → length new ≡ length old → Grown old new agent units → (n : ℕ) (us : List ℕ) → IsAgentListed leads old onward n us → IsAgentListed leads new onward n us
  kept_grown old new onward agent units same grown n us is = record {
    each = λ u l e. elim (or_cases (is_among n onward) (is_listed_for old u n) (is.each u (subst (λ k. u < k) same l) e)) [
      | inl h ↦ or_left (is_among n onward) (is_listed_for new u n) h
      | inr h ↦ or_right (is_among n onward) (is_listed_for new u n) (grown u n (subst (λ k. u < k) same l) ∙ or_left (is_listed_for old u n) (list_any (λ unit. nat_eq unit u && nat_eq agent n) units) h)
    ];
    leading = is.leading;
  }

  in_grown : (old new : List (List ℕ)) (onward : List ℕ) (agent : ℕ) (units : List ℕ) → length new ≡ length old → Grown old new agent units → list_any (λ u. slice_index_or leads u false) units ≡ false → IsAgentListed leads new onward agent units
  in_grown old new onward agent units same grown none = record {
    each = λ u l e. or_right (is_among agent onward) (is_listed_for new u agent) (grown u agent (subst (λ k. u < k) same l) ∙ or_right (is_listed_for old u agent) (list_any (λ unit. nat_eq unit u && nat_eq agent agent) units) (here u e));
    leading = λ u e f. (let m = any_member (λ other. nat_eq other u) units e in absurd (false≢true (sym (member_none (λ k. slice_index_or leads k false) units m.0 none m.1) ∙ ap (λ k. slice_index_or leads k false) (eqb-true m.0 u m.2) ∙ f)));
  }
    where
      here : (u : ℕ) → is_among u units ≡ true → list_any (λ unit. nat_eq unit u && nat_eq agent agent) units ≡ true
      here u e =
          let m = any_member (λ other. nat_eq other u) units e in
          member_any (λ unit. nat_eq unit u && nat_eq agent agent) units m.0 m.1 (and_from (nat_eq m.0 u) (nat_eq agent agent) m.2 (eq-eqb agent agent refl))

  pub kept_lists : {A E : Type 0} (old new : List (List ℕ)) (onward : List ℕ) (agent : ℕ) (units : List ℕ) (r : Result A E) → OnOk r (length new ≡ length old) → OnOk r (Grown old new agent units) → OnOk r ((n : ℕ) (us : List ℕ) → IsAgentListed leads old onward n us → IsAgentListed leads new onward n us)
  kept_lists old new onward agent units (Ok a) same grown = kept_grown old new onward agent units same grown
  kept_lists old new onward agent units (Err e) same grown = tt

  pub in_lists : {A E : Type 0} (old new : List (List ℕ)) (onward : List ℕ) (agent : ℕ) (units : List ℕ) (r : Result A E) → OnOk r (length new ≡ length old) → OnOk r (Grown old new agent units) → list_any (λ u. slice_index_or leads u false) units ≡ false → OnOk r (IsAgentListed leads new onward agent units)
  in_lists old new onward agent units (Ok a) same grown none = in_grown old new onward agent units same grown none
  in_lists old new onward agent units (Err e) same grown none = tt

  module _ (net : List NodeDecl) (nodes : List Levels) where
    -- no node yet
    pub none_listed : (by_unit : List (List ℕ)) (onward : List ℕ) → length by_unit ≡ length net → AreListed net nodes 0 leads by_unit onward
    none_listed by_unit onward every = record { every = every; each = λ agent l is. absurd (omega (arith, l)) }

    -- one node more
    pub node_listed : (node : ℕ) (old new : List (List ℕ)) (first next : List ℕ) → AreListed net nodes node leads old first → length new ≡ length old → ((n : ℕ) (us : List ℕ) → IsAgentListed leads old first n us → IsAgentListed leads new next n us) → (IsTrue (is_agent_at (slice_get net node)) → IsAgentListed leads new next node (units_in (slice_get nodes node))) → AreListed net nodes (node + 1) leads new next
    node_listed node old new first next are same kept listed = record {
      every = same ∙ are.every;
      each = λ agent l is. by agent is (cases agent node l);
    }
      where
        cases : (m n : ℕ) → m < n + 1 → (m < n) ⊎ (n ≡ m)
        cases m n l = grind arith

        by : (agent : ℕ) → IsTrue (is_agent_at (slice_get net agent)) → (agent < node) ⊎ (node ≡ agent) → IsAgentListed leads new next agent (units_in (slice_get nodes agent))
        by agent is (inl l) = kept agent (units_in (slice_get nodes agent)) (are.each agent l is)
        by agent is (inr e) = subst (λ n. IsAgentListed leads new next n (units_in (slice_get nodes n))) e (listed (subst (λ n. IsTrue (is_agent_at (slice_get net n))) (sym e) is))

    pub nodes_listed : {A E : Type 0} (node : ℕ) (old new : List (List ℕ)) (first next : List ℕ) (r : Result A E) (units : List ℕ) → units ≡ units_in (slice_get nodes node) → AreListed net nodes node leads old first → OnOk r (length new ≡ length old) → OnOk r ((n : ℕ) (us : List ℕ) → IsAgentListed leads old first n us → IsAgentListed leads new next n us) → OnOk r (IsAgentListed leads new next node units) → OnOk r (AreListed net nodes (node + 1) leads new next)
    nodes_listed node old new first next (Ok a) units same are size kept listed = node_listed node old new first next are size kept (λ _. subst (λ (us : List ℕ). IsAgentListed leads new next node us) same listed)
    nodes_listed node old new first next (Err e) units same are size kept listed = tt

-- all nodes
pub are_seers : (net : List NodeDecl) (nodes : List Levels) (node : ℕ) (leads : List Bool) (by_unit : List (List ℕ)) (onward : List ℕ) (all : List Bool) (lists : List (List ℕ)) (agents : List ℕ) → all ≡ leads → lists ≡ by_unit → agents ≡ onward → ((n : ℕ) → slice_index_or leads n false ≡ leads_to_units nodes (unit_at net n)) → node ≡ length net → AreListed net nodes node leads by_unit onward → AreSeers net nodes (record { leads = all; by_unit = lists; onward = agents })
are_seers net nodes node leads by_unit onward all lists agents e f g told over are = record {
  leads = λ n. ap (λ (l : List Bool). slice_index_or l n false) e ∙ told n;
  listed = subst (λ (l : List Bool). AreListed net nodes (length net) l lists agents) (sym e) (subst (λ (l : List (List ℕ)). AreListed net nodes (length net) leads l agents) (sym f) (subst (λ (l : List ℕ). AreListed net nodes (length net) leads by_unit l) (sym g) (subst (λ n. AreListed net nodes n leads by_unit onward) over are)));
}
