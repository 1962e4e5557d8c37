-- One node more.
use Rattle.std.proofs.Common.{◌≡◌, ◌∙◌, ◌+◌, ap, sym, drop, length, arith}
use Rattle.dn_net.proofs.Faults.{part_is}
use Rattle.dn_shape.specs.Split.{new_nodes, divided_count, with_accepter, with_accepters}
use Rattle.dn_shape.proofs.Divided.{one_more}
use Rattle.dn_shape.proofs.Read.{rest_at, one_node}
use Rattle.dn_shape.proofs.split.add_accepters.Goals as goal

pub add_accepter-requires : goal.add_accepter-requires
add_accepter-requires c =
    let net = c.args.checked.net.now in
    let r = rest_at net c.loop-node.node (omega (arith, c.nodes-node-end.ensures, c.loop-node-test.true)) in
    let rest : divided_count (drop c.loop-node.node net) ≡ new_nodes r.node + divided_count (drop (c.loop-node.node + 1) net) = ap divided_count r.rest in
    record { few = λ n at. let same : new_nodes r.node ≡ new_nodes n = ap new_nodes (one_node _ r.node n r.at at) in omega (arith, c.loop-node.invariant.few, rest, same) }

pub loop-node-preserved : goal.loop-node-preserved
loop-node-preserved c =
    let net = c.args.checked.net.now in
    let r = rest_at net c.loop-node.node (omega (arith, c.nodes-node-end.ensures, c.loop-node-test.true)) in
    let rest : divided_count (drop c.loop-node.node net) ≡ new_nodes r.node + divided_count (drop (c.loop-node.node + 1) net) = ap divided_count r.rest in
    let made : with_accepter c.loop-node.made r.node ≡ c.add_accepter.new.made = part_is (with_accepter c.loop-node.made) _ r.node c.add_accepter.new.made r.at c.in_ok-add_accepter.ensures in
    let long : length c.add_accepter.new.made ≡ length c.loop-node.made + new_nodes r.node = ap length (sym made) ∙ one_more c.loop-node.made r.node in
    record {
      rest = ap (λ l. with_accepters l (drop (c.loop-node.node + 1) net)) (sym made) ∙ ap (with_accepters c.loop-node.made) (sym r.rest) ∙ c.loop-node.invariant.rest;
      few = omega (arith, c.loop-node.invariant.few, rest, long);
    }
