use Rattle.std.proofs.Common.{◌≡◌, drop, nat_lt}
use Rattle.std.specs.List.{list_all}
use Rattle.test_plans.proofs.plan.are_within.Given as goal

abbrev pub invariant-loop-node : goal.invariant-loop-node
invariant-loop-node l =
    list_all (λ p. nat_lt p l.fn.count) l.nodes
    ≡ list_all (λ p. nat_lt p l.fn.count) (drop l.node-index l.nodes)
