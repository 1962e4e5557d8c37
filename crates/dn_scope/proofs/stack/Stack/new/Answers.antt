use Rattle.std.proofs.Common.{◌∙◌, ap}
use Rattle.std.proofs.lemmas.List.{append-nil}
use Rattle.dn_scope.specs.Uses.{outside, statements}
use Rattle.dn_scope.specs.Replace.{in_items}
use Rattle.dn_scope.specs.Stack.{body_view, use_view}
use Rattle.dn_scope.proofs.Unreplaced.{items_same}
use Rattle.dn_scope.proofs.stack.Stack.new.Goals as goal

pub returns : goal.returns
returns c =
    rw c.new-2.ensures.items
    (append-nil (use_view c.new.result)
    ∙ c.new.ensures
    ∙ ap (λ r. statements outside (in_items r (body_view c.args.body.now))) c.outside.ensures
    ∙ ap (statements outside) (items_same (body_view c.args.body.now)))
