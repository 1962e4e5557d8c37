use Rattle.std.proofs.Common.{◌≡◌, length}
use Rattle.dn_scope.specs.Stack.{use_view}
use Rattle.dn_scope.proofs.stack.Use.next.Given as goal

abbrev pub invariant-loop-work : goal.invariant-loop-work
invariant-loop-work l = use_view l.fn.self ≡ use_view l.self

abbrev pub decreases-loop-work : goal.decreases-loop-work
decreases-loop-work l = length l.self.outer.items
