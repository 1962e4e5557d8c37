use Rattle.std.proofs.Common.{◌≡◌, ◌∙◌, sym, ap, ◌+◌, ◌≤◌, [], ◌∷◌, ◌++◌, false}
use Rattle.std.proofs.lemmas.List.{map-append}
use Rattle.dn_net.specs.Decode.{is_agent, is_unit}
use Rattle.dn_module.specs.declared.draft.Draft.{Draft}
use Rattle.dn_scope.specs.Numbered.{is_known}
use Rattle.dn_module.specs.Drafts.{names, limit_passed, parts_of_draft, agents_among, units_among, all_parts}
use Rattle.dn_scope.specs.Uses.{has_twice}
use Rattle.dn_scope.proofs.Known.{new_stays}
use Rattle.dn_module.proofs.Limits.{agents_more, units_more, parts_more, within_limits, one_if, as_number}
use Rattle.dn_base.proofs.Lists.{length-last}
use Rattle.dn_module.proofs.drafts.Drafts.add.Goals as goal

pub invariant_of-self-2 : goal.invariant_of-self-2
invariant_of-self-2 c =
    let ds = c.self.inside.drafts.items in
    let d = c.args.draft in
    let inv = c.self.invariant in
    let one : c.from.result ≡ one_if (is_agent d.role) = c.from.ensures ∙ as_number c.is_agent.result ∙ ap one_if c.is_agent.ensures in
    let agents : c.self.inside.agents + c.from.result ≡ agents_among ds + one_if (is_agent d.role) = λ i. inv.agents_are i + one i in
    let one_unit : c.from-2.result ≡ one_if (is_unit d.role) = c.from-2.ensures ∙ as_number c.is_unit.result ∙ ap one_if c.is_unit.ensures in
    let units : c.self.inside.units + c.from-2.result ≡ units_among ds + one_if (is_unit d.role) = λ i. inv.units_are i + one_unit i in
    let parts : c.self.inside.parts + c.parts_of.result ≡ all_parts ds + parts_of_draft d = λ i. inv.parts_are i + c.parts_of.ensures i in
    let few : agents_among ds ≤ 64 = rw inv.agents_are at inv.few_agents in
    let few_units : units_among ds ≤ 64 = rw inv.units_are at inv.few_units in
    let within = within_limits ds d few few_units (ap (λ l. limit_passed l d) c.self.view_is ∙ c.in_default.ensures.within) in
    let named : names (ds ++ d ∷ []) ≡ names ds ++ d.name ∷ [] = map-append (λ (e : Draft). e.name) ds (d ∷ []) in
    let met : is_known (names ds) d.name ≡ false = ap (λ l. is_known (names l) d.name) c.self.view_is ∙ c.in_default.ensures.new_name in
    rw c.in_ok-put.ensures.drafts record {
      names_are = c.in_ok-put.ensures.known ∙ ap (λ l. l ++ d.name ∷ []) inv.names_are ∙ sym named;
      agents_are = agents ∙ sym (agents_more ds d);
      units_are = units ∙ sym (units_more ds d);
      parts_are = parts ∙ sym (parts_more ds d);
      few = rw (length-last ds d) within.nodes_fit;
      few_agents = rw agents within.agents_fit;
      few_units = rw units within.units_fit;
      few_parts = rw parts within.parts_fit;
      different = ap has_twice named ∙ new_stays (names ds) d.name met inv.different;
    }
