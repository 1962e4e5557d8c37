-- One node more.
use Rattle.std.proofs.Common.{◌≡◌, ◌+◌, ap, drop, arith}
use Rattle.dn_net.proofs.Faults.{part_is}
use Rattle.dn_shape.specs.Split.{is_divided, new_nodes, divided_count}
use Rattle.dn_shape.proofs.Read.{rest_at}
use Rattle.dn_shape.proofs.Sending.{counted, few_new}
use Rattle.dn_shape.proofs.split.divided_count.Goals as goal

pub loop-node-preserved : goal.loop-node-preserved
loop-node-preserved c =
    let net = c.args.net.now in
    let r = rest_at net c.loop-node.node (omega (arith, c.nodes-node-end.ensures, c.loop-node-test.true)) in
    let divided : is_divided r.node ≡ c.is_divided.result = part_is is_divided _ r.node c.is_divided.result r.at c.is_divided.ensures in
    let more : c.from-count.result ≡ new_nodes r.node = counted c.is_divided.result r.node c.from-count.result c.from-count.ensures divided in
    let rest : divided_count (drop c.loop-node.node net) ≡ new_nodes r.node + divided_count (drop (c.loop-node.node + 1) net) = ap divided_count r.rest in
    let few = few_new r.node in
    record {
      rest = omega (arith, c.loop-node.invariant.rest, more, rest);
      few = omega (arith, c.loop-node.invariant.few, more, few);
    }
