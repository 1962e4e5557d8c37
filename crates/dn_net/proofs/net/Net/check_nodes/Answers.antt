use Rattle.std.proofs.Common.{◌∙◌, arith}
use Rattle.std.proofs.lemmas.Result.{err_from_is_err_and}
use Rattle.std.proofs.lemmas.List.{at_drop_all}
use Rattle.dn_net.specs.Rules.{node_fault_from}
use Rattle.dn_net.proofs.Faults.{fault_here, fault_later}
use Rattle.dn_net.proofs.Kept.{each_kept}
use Rattle.dn_net.proofs.net.Net.check_nodes.Goals as goal

pub returns-in_err-check_node-clause-checks : goal.returns-in_err-check_node-clause-checks
returns-in_err-check_node-clause-checks c =
    let p = err_from_is_err_and c.from_residual.result c.from_residual.ensures.1 in
    let last = c.loop-node.invariant.last in
    rw (p.1, p.2) (fault_here c.loop-node.node c.args.self.now _ _ c.loop-node.invariant.same (omega (arith, last)) c.in_err-check_node.ensures)

pub loop-node-preserved : goal.loop-node-preserved
loop-node-preserved c =
    let end = c.loop-node.invariant.last in
    record {
      last = end;
      same = c.loop-node.invariant.same ∙ fault_later c.loop-node.node c.args.self.now (omega (arith, end)) c.in_ok-check_node.ensures;
    }

pub returns-clause-rules : goal.returns-clause-rules
returns-clause-rules c =
    let last = c.loop-node.invariant.last in
    each_kept c.args.self.now (c.loop-node.invariant.same ∙ at_drop_all (λ l. node_fault_from c.loop-node.node l) c.args.self.now c.loop-node.node (omega (arith, last)))
