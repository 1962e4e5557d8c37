-- What was added refers to the nodes of the plan alone.
use Rattle.std.proofs.Common.{IsTrue}
use Rattle.std.specs.List.{list_all}
use Rattle.dn_net.specs.declared.node.NodeDecl.{NodeDecl}
use Rattle.dn_net.specs.Decode.{refers_within}
use Rattle.dn_kind.specs.Units.{has_kind}
use Rattle.test_plans.proofs.plan.closed_net.Given as goal

abbrev pub invariant-loop-decl : goal.invariant-loop-decl
invariant-loop-decl l = record {
  closed : IsTrue (list_all (refers_within l.count) l.net);
  known : IsTrue (list_all (λ (n : NodeDecl). has_kind l.fn.kinds n.unit) l.net);
}
