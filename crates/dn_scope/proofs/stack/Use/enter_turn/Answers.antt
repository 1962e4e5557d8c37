use Rattle.std.proofs.Common.{rules, ◌≡◌, ◌++◌, ap, refl, None}
use Rattle.dn_scope.specs.Uses.{statements}
use Rattle.dn_scope.specs.Replace.{in_items}
use Rattle.dn_scope.specs.Stack.{visibility_view, body_view}
use Rattle.dn_scope.proofs.Works.{turn_entered, free_rest}
use Rattle.dn_scope.proofs.stack.Use.enter_turn.Goals as goal

pub returns-clause-entered : goal.returns-clause-entered
returns-clause-entered c =
    let at = c.args.self.now in
    let s = visibility_view at.visible in
    let outer : c.reserve.new.self.items ≡ at.outer.items = search rules in
    rw (c.in_ok-enter.ensures.ok, c.push_reserved.ensures.items, outer)
    (turn_entered s at.scope c.args.turns at.inner (record { turns = c.after.result; statements = at.inner.statements }) (record { turns = None; statements = c.args.turns.body }) at.outer.items
    (free_rest s at.scope at.inner c.requires.free)
    (ap (λ ws. ws ++ statements s (in_items at.scope (body_view at.inner.statements.now))) (c.after.ensures s at.scope))
    refl)
