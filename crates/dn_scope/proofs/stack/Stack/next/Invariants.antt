use Rattle.std.proofs.Common.{◌≡◌, length}
use Rattle.dn_scope.specs.Stack.{stack_view}
use Rattle.dn_scope.proofs.stack.Stack.next.Given as goal

abbrev pub invariant-loop-work : goal.invariant-loop-work
invariant-loop-work l = stack_view l.fn.self ≡ stack_view l.self

abbrev pub decreases-loop-work : goal.decreases-loop-work
decreases-loop-work l = length l.self.outer.items
