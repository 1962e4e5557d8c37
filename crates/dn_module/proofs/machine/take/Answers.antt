use Rattle.std.proofs.Common.{rules, ap, ◌∙◌}
use Rattle.dn_parse.specs.Views.{declaration_view, item_view}
use Rattle.dn_kind.specs.Kinded.{kinds_of}
use Rattle.dn_scope.specs.Replace.{in_declaration, in_item}
use Rattle.dn_scope.specs.Stack.{visibility_view, stack_view}
use Rattle.dn_module.specs.Machine.{expansion_state_view}
use Rattle.dn_module.proofs.Steps.{declaration_item, declaration_taken}
use Rattle.dn_module.proofs.machine.take.Goals as goal

pub returns-in-Decl : goal.returns-in-Decl
returns-in-Decl g c =
    let kinds = kinds_of (λ k. (goal.UnitKind-dyn g k).meaning k.1) c.args.kinds.now in
    let at = c.args.stack.now in
    declaration_taken kinds (visibility_view at.inner.visible) (stack_view at) (expansion_state_view c.args.made.now) c.in-Decl.line (in_declaration at.inner.scope (declaration_view c.in-Decl.decl)) c.declare.result c.declare.new.drafts (in_item at.inner.scope (item_view c.args.statement.now)) _ _ (ap (λ t. in_item at.inner.scope (item_view t)) c.in-Decl.is ∙ declaration_item at.inner.scope c.in-Decl.line c.in-Decl.decl) (search rules) (search rules) c.declare.ensures
