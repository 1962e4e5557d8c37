use Rattle.std.proofs.Common.{◌∙◌, sym, ap, subst}
use Rattle.dn_base.proofs.Lists.{length-map}
use Rattle.std.proofs.lemmas.Result.{err_from_is_err_and}
use Rattle.dn_base.specs.Answers.{Answers}
use Rattle.dn_parse.specs.Views.{tree_view}
use Rattle.dn_kind.specs.Kinded.{kinds_of}
use Rattle.dn_module.specs.Expand.{all_rewritings, most_steps, nothing_yet}
use Rattle.dn_scope.specs.Uses.{outside, statements}
use Rattle.dn_module.specs.Finish.{outcome_view}
use Rattle.dn_module.specs.Machine.{expansion_state_view}
use Rattle.dn_scope.specs.Stack.{body_view}
use Rattle.dn_scope.specs.Faults.{expand_fault_view}
use Rattle.dn_module.proofs.Whole.{body_fault, body_made}
use Rattle.dn_module.proofs.Passed.{drafts_formed, kinds_of_answer}
use Rattle.dn_module.proofs.expand.expand.Goals as goal

pub finish-requires : goal.finish-requires
finish-requires g c =
    let kinds = kinds_of (λ k. (goal.UnitKind-dyn g k).meaning k.1) c.args.kinds.now in
    let body = ap (λ b. all_rewritings kinds most_steps (statements outside (body_view b)) nothing_yet) c.as_slice.ensures.value in
    record { formed = drafts_formed kinds (tree_view c.args.tree.now) (expansion_state_view c.in_ok-made.made) (sym body ∙ c.in_ok-made.ensures) }

pub returns-in_err-made-clause-expansion : goal.returns-in_err-made-clause-expansion
returns-in_err-made-clause-expansion g c =
    let kinds = kinds_of (λ k. (goal.UnitKind-dyn g k).meaning k.1) c.args.kinds.now in
    let body = c.as_slice.ensures.value in
    let p = err_from_is_err_and c.from_residual.result c.from_residual.ensures.1 in
    rw (p.1, p.2) (body_fault kinds (tree_view c.args.tree.now) (expand_fault_view c.in_err-made.field-0.0) (rw (← body) c.in_err-made.ensures))

pub returns-clause-expansion : goal.returns-clause-expansion
returns-clause-expansion g c =
    let kinds = kinds_of (λ k. (goal.UnitKind-dyn g k).meaning k.1) c.args.kinds.now in
    let body = ap (λ b. all_rewritings kinds most_steps (statements outside (body_view b)) nothing_yet) c.as_slice.ensures.value in
    subst (Answers outcome_view expand_fault_view c.finish.result) (body_made kinds (tree_view c.args.tree.now) (expansion_state_view c.in_ok-made.made) (sym body ∙ c.in_ok-made.ensures)) c.finish.ensures

pub returns-clause-units : goal.returns-clause-units
returns-clause-units g c =
    let kinds = kinds_of (λ k. (goal.UnitKind-dyn g k).meaning k.1) c.args.kinds.now in
    kinds_of_answer kinds _ (tree_view c.args.tree.now) c.finish.result (length-map c.args.kinds.now.list.items _) (returns-clause-expansion g c)
