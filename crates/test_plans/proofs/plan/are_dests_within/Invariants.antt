use Rattle.std.proofs.Common.{◌≡◌, drop, nat_lt}
use Rattle.std.specs.List.{list_all}
use Rattle.dn_net.specs.declared.node.Dest.{Dest}
use Rattle.test_plans.proofs.plan.are_dests_within.Given as goal

abbrev pub invariant-loop-dest : goal.invariant-loop-dest
invariant-loop-dest l =
    list_all (λ (d : Dest). nat_lt d.node l.fn.count) l.dests
    ≡ list_all (λ (d : Dest). nat_lt d.node l.fn.count) (drop l.dest-index l.dests)
