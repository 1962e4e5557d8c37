use Rattle.std.proofs.Common.{rules, ◌≡◌, ◌∙◌, sym, ap, length, ◌+◌, ◌≤◌, Some}
use Rattle.dn_net.specs.Decode.{is_agent, is_unit}
use Rattle.dn_module.specs.Drafts.{agents_among, units_among, all_parts}
use Rattle.dn_module.specs.Machine.{limit_by}
use Rattle.dn_module.proofs.Limits.{limit_is, known_test, known_fault, limit_fault, one_if, as_number}
use Rattle.dn_module.proofs.drafts.Drafts.fault.Goals as goal

pub returns-then-is_some-clause-fault : goal.returns-then-is_some-clause-fault
returns-then-is_some-clause-fault c =
    let met = known_test c.args.self.now _ _ c.args.draft.now.name _ _ c.self.view_is c.self.invariant.names_are c.as_str.ensures c.find.ensures in
    ap (λ r. Some r) (sym (known_fault c.args.self.now c.args.draft.now (met ∙ sym c.is_some.ensures ∙ c.if-is_some.true)))

pub returns-in-Some-clause-fault : goal.returns-in-Some-clause-fault
returns-in-Some-clause-fault c =
    let met = known_test c.args.self.now _ _ c.args.draft.now.name _ _ c.self.view_is c.self.invariant.names_are c.as_str.ensures c.find.ensures in
    let now = c.args.self.now in
    let d = c.args.draft.now in
    let inside = c.self.inside in
    let one : c.from.result ≡ one_if (is_agent d.role) = c.from.ensures ∙ as_number c.is_agent.result ∙ ap one_if c.is_agent.ensures in
    let agents : inside.agents ≡ agents_among now = c.self.invariant.agents_are ∙ ap agents_among c.self.view_is in
    let few : agents_among now ≤ 64 = rw agents at c.self.invariant.few_agents in
    let one_unit : c.from-2.result ≡ one_if (is_unit d.role) = c.from-2.ensures ∙ as_number c.is_unit.result ∙ ap one_if c.is_unit.ensures in
    let units : inside.units ≡ units_among now = c.self.invariant.units_are ∙ ap units_among c.self.view_is in
    let few_units : units_among now ≤ 64 = rw units at c.self.invariant.few_units in
    let count : c.len.result ≡ length inside.drafts.items = search rules in
    let nodes : c.len.result ≡ length now = count ∙ ap length c.self.view_is in
    let parts : inside.parts ≡ all_parts now = c.self.invariant.parts_are ∙ ap all_parts c.self.view_is in
    let same = limit_is now d c.len.result (inside.agents + c.from.result) (inside.units + c.from-2.result) inside.parts nodes few (λ i. agents i + one i) few_units (λ i. units i + one_unit i) parts in
    let limit = sym same ∙ ap (limit_by c.len.result (inside.agents + c.from.result) (inside.units + c.from-2.result) inside.parts) (sym c.parts_of-parts.ensures) ∙ sym c.limit_by.ensures ∙ c.in-Some.is in
    ap (λ r. Some r) (sym (limit_fault now d c.in-Some.limit (met ∙ sym c.is_some.ensures ∙ c.if-is_some.false) limit))

pub returns-in-None-clause-new_name : goal.returns-in-None-clause-new_name
returns-in-None-clause-new_name c =
    let met = known_test c.args.self.now _ _ c.args.draft.now.name _ _ c.self.view_is c.self.invariant.names_are c.as_str.ensures c.find.ensures in
    met ∙ sym c.is_some.ensures ∙ c.if-is_some.false
