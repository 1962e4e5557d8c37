use Rattle.std.proofs.Common.{List, Err}
use Rattle.dn_kind.specs.Kind.{Meaning}
use Rattle.dn_parse.specs.Views.{tree_view}
use Rattle.dn_kind.specs.Kinded.{kinds_of}
use Rattle.dn_module.specs.Finish.{outcome_view}
use Rattle.dn_tool.specs.Compiled.{compilation, compile_fault_view, platform_view}
use Rattle.dn_tool.proofs.Refusals.{compiled_checks, compiled_legal, expanded_answer, expansion_refused, text_refused}
use Rattle.dn_tool.proofs.compile.compile.Goals as goal

pub returns-in-Err-clause-answer : goal.returns-in-Err-clause-answer
returns-in-Err-clause-answer g c =
    c.fault_of.ensures _ (text_refused _ c.args.text.now c.in-Err.fault c.text_refusal.result c.in-Err.ensures c.text_refusal.ensures)

pub returns-in-Ok-expand-clause-answer : goal.returns-in-Ok-expand-clause-answer
returns-in-Ok-expand-clause-answer g c =
    expanded_answer platform_view compile_fault_view c.platform_of.result _ c.args.text.now (tree_view c.in-Ok.tree) (outcome_view c.in-Ok-expand.expanded) c.in-Ok.ensures c.in-Ok-expand.ensures.expansion c.platform_of.ensures.answer

pub returns-clause-answer : goal.returns-clause-answer
returns-clause-answer g c =
    c.fault_of-in-Err-expand.ensures _ (expansion_refused _ c.args.text.now (tree_view c.in-Ok.tree) c.in-Err-expand.fault c.expand_refusal.result c.in-Ok.ensures c.in-Err-expand.ensures.expansion c.expand_refusal.ensures)

-- it is refused for the first rule that it breaks, or breaks none
pub returns-in-Err-clause-fault : goal.returns-in-Err-clause-fault
returns-in-Err-clause-fault g c =
    let kinds : List Meaning = (kinds_of (λ k. (goal.UnitKind-dyn g k).meaning k.1) c.args.kinds.now) in
    compiled_checks platform_view compile_fault_view (Err c.fault_of.result) (compilation kinds c.args.text.now)
    (c.fault_of.ensures _ (text_refused kinds c.args.text.now c.in-Err.fault c.text_refusal.result c.in-Err.ensures c.text_refusal.ensures))

pub returns-in-Ok-expand-clause-fault : goal.returns-in-Ok-expand-clause-fault
returns-in-Ok-expand-clause-fault g c =
    let kinds : List Meaning = (kinds_of (λ k. (goal.UnitKind-dyn g k).meaning k.1) c.args.kinds.now) in
    compiled_checks platform_view compile_fault_view c.platform_of.result (compilation kinds c.args.text.now)
    (expanded_answer platform_view compile_fault_view c.platform_of.result kinds c.args.text.now (tree_view c.in-Ok.tree) (outcome_view c.in-Ok-expand.expanded) c.in-Ok.ensures c.in-Ok-expand.ensures.expansion c.platform_of.ensures.answer)

pub returns-in-Ok-expand-clause-legal : goal.returns-in-Ok-expand-clause-legal
returns-in-Ok-expand-clause-legal g c =
    let kinds : List Meaning = (kinds_of (λ k. (goal.UnitKind-dyn g k).meaning k.1) c.args.kinds.now) in
    compiled_legal platform_view compile_fault_view c.platform_of.result (compilation kinds c.args.text.now)
    (expanded_answer platform_view compile_fault_view c.platform_of.result kinds c.args.text.now (tree_view c.in-Ok.tree) (outcome_view c.in-Ok-expand.expanded) c.in-Ok.ensures c.in-Ok-expand.ensures.expansion c.platform_of.ensures.answer)

pub returns-clause-fault : goal.returns-clause-fault
returns-clause-fault g c =
    let kinds : List Meaning = (kinds_of (λ k. (goal.UnitKind-dyn g k).meaning k.1) c.args.kinds.now) in
    compiled_checks platform_view compile_fault_view (Err c.fault_of-in-Err-expand.result) (compilation kinds c.args.text.now)
    (c.fault_of-in-Err-expand.ensures _ (expansion_refused kinds c.args.text.now (tree_view c.in-Ok.tree) c.in-Err-expand.fault c.expand_refusal.result c.in-Ok.ensures c.in-Err-expand.ensures.expansion c.expand_refusal.ensures))
