use Rattle.std.proofs.Common.{◌≡◌}
use Rattle.dn_kind.specs.Kinded.{kinds_of}
use Rattle.dn_module.specs.Expand.{all_rewritings, most_steps, nothing_yet}
use Rattle.dn_scope.specs.Uses.{statements, outside}
use Rattle.dn_scope.specs.Stack.{body_view, stack_view}
use Rattle.dn_module.specs.Machine.{expansion_state_view}
use Rattle.dn_module.proofs.machine.expand_body.Given as goal

abbrev pub invariant-loop-work : goal.invariant-loop-work
invariant-loop-work g l =
    let kinds = kinds_of (λ k. (goal.UnitKind-dyn g k).meaning k.1) l.fn.kinds in
    all_rewritings kinds most_steps (statements outside (body_view l.fn.body)) nothing_yet ≡ all_rewritings kinds l.left (stack_view l.stack) (expansion_state_view l.made)

abbrev pub decreases-loop-work : goal.decreases-loop-work
decreases-loop-work g l = l.left
