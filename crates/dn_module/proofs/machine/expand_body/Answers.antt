use Rattle.std.proofs.Common.{◌∙◌, sym, arith, ◌<◌}
use Rattle.std.proofs.lemmas.Result.{err_from_is_err_and}
use Rattle.dn_kind.specs.Kinded.{kinds_of}
use Rattle.dn_module.specs.Expand.{most_steps, nothing_yet}
use Rattle.dn_scope.specs.Uses.{statements, outside}
use Rattle.dn_module.specs.Machine.{expansion_state_view}
use Rattle.dn_scope.specs.Faults.{expand_fault_view}
use Rattle.dn_scope.specs.Stack.{body_view, stack_view}
use Rattle.dn_module.proofs.Steps.{most_steps_are, begun, work_first, step_on, fault_on}
use Rattle.dn_module.proofs.machine.expand_body.Goals as goal

pub loop-work-init : goal.loop-work-init
loop-work-init g c =
    let kinds = kinds_of (λ k. (goal.UnitKind-dyn g k).meaning k.1) c.args.kinds.now in
    begun kinds most_steps 65536 (statements outside (body_view c.args.body.now)) (stack_view c.new-stack.result) nothing_yet _
    most_steps_are (sym c.new-stack.ensures) (λ i. record { modules = sym c.new.ensures i; drafts = sym c.new-2.ensures i })

pub loop-work-preserved : goal.loop-work-preserved
loop-work-preserved g c =
    let kinds = kinds_of (λ k. (goal.UnitKind-dyn g k).meaning k.1) c.args.kinds.now in
    let more : 0 < c.loop-work.left = omega arith in
    c.loop-work.invariant
    ∙ work_first kinds c.loop-work.left _ _ _ c.in-Some.ensures.some
    ∙ step_on kinds c.loop-work.left _ _ _ (stack_view c.step.new.stack, expansion_state_view c.step.new.made) more c.in_ok-step.ensures

pub returns-in_err-step : goal.returns-in_err-step
returns-in_err-step g c =
    let kinds = kinds_of (λ k. (goal.UnitKind-dyn g k).meaning k.1) c.args.kinds.now in
    let more : 0 < c.loop-work.left = omega arith in
    let p = err_from_is_err_and c.from_residual.result c.from_residual.ensures.1 in
    rw (p.1, p.2) (fault_on kinds c.loop-work.left _ _ _ (expand_fault_view c.in_err-step.field-0.0) _ more (c.loop-work.invariant ∙ work_first kinds c.loop-work.left _ _ _ c.in-Some.ensures.some) c.in_err-step.ensures)
