-- One node more.
use Rattle.std.proofs.Common.{◌≡◌, ◌∙◌, ◌+◌, ◌++◌, ◌∷◌, [], ap, sym, subst, drop, length, arith, IsTrue, append_assoc}
use Rattle.dn_base.proofs.Lists.{length-last}
use Rattle.dn_net.specs.Decode.{is_formed}
use Rattle.dn_net.proofs.Steps.{node_at}
use Rattle.dn_net.proofs.Faults.{part_is}
use Rattle.dn_shape.specs.Split.{is_divided, new_nodes, divided_count, sending_node, sending_nodes}
use Rattle.dn_shape.proofs.Named.{new_node}
use Rattle.dn_shape.proofs.Read.{rest_at}
use Rattle.dn_shape.proofs.Sending.{counted, sending_formed, sending_differ}
use Rattle.dn_shape.proofs.split.sending_nodes.Goals as goal

pub add-requires-clause-formed : goal.add-requires-clause-formed
add-requires-clause-formed c =
    let net = c.args.net.now in
    let r = rest_at net c.loop-node.node (omega (arith, c.nodes-count.ensures, c.loop-node-test.true)) in
    let decl : sending_node c.loop-node.next r.node ≡ c.in_ok-sending_node.field-0 = part_is (sending_node c.loop-node.next) _ r.node c.in_ok-sending_node.field-0 r.at c.in_ok-sending_node.ensures in
    subst (λ d. IsTrue (is_formed d)) decl (sending_formed c.loop-node.next r.node (node_at is_formed net c.loop-node.node c.requires.legal.is_net.formed r.node r.at))

pub add-requires-clause-new_name : goal.add-requires-clause-new_name
add-requires-clause-new_name c =
    let net = c.args.net.now in
    let r = rest_at net c.loop-node.node (omega (arith, c.nodes-count.ensures, c.loop-node-test.true)) in
    let decl : sending_node c.loop-node.next r.node ≡ c.in_ok-sending_node.field-0 = part_is (sending_node c.loop-node.next) _ r.node c.in_ok-sending_node.field-0 r.at c.in_ok-sending_node.ensures in
    new_node c.loop-node.made (sending_nodes (c.loop-node.next + new_nodes r.node) (drop (c.loop-node.node + 1) net)) _ (sending_node c.loop-node.next r.node) c.in_ok-sending_node.field-0 decl (ap (λ l. c.loop-node.made ++ sending_nodes c.loop-node.next l) (sym r.rest) ∙ c.loop-node.invariant.rest) (sending_differ (length net) net c.requires.legal.is_net.names_differ)

pub loop-node-preserved : goal.loop-node-preserved
loop-node-preserved c =
    let net = c.args.net.now in
    let r = rest_at net c.loop-node.node (omega (arith, c.nodes-count.ensures, c.loop-node-test.true)) in
    let decl : sending_node c.loop-node.next r.node ≡ c.in_ok-sending_node.field-0 = part_is (sending_node c.loop-node.next) _ r.node c.in_ok-sending_node.field-0 r.at c.in_ok-sending_node.ensures in
    let divided : is_divided r.node ≡ c.is_divided.result = part_is is_divided _ r.node c.is_divided.result r.at c.is_divided.ensures in
    let more : c.from.result ≡ new_nodes r.node = counted c.is_divided.result r.node c.from.result c.from.ensures divided in
    let added = c.in_ok-add.ensures.ok.1 in
    let rest : divided_count (drop c.loop-node.node net) ≡ new_nodes r.node + divided_count (drop (c.loop-node.node + 1) net) = ap divided_count r.rest in
    record {
      rest = ap (λ l. l ++ sending_nodes (c.loop-node.next + c.from.result) (drop (c.loop-node.node + 1) net)) (added ∙ ap (λ d. c.loop-node.made ++ d ∷ []) (sym decl)) ∙ append_assoc c.loop-node.made (sending_node c.loop-node.next r.node ∷ []) (sending_nodes (c.loop-node.next + c.from.result) (drop (c.loop-node.node + 1) net)) ∙ ap (λ k. c.loop-node.made ++ sending_node c.loop-node.next r.node ∷ sending_nodes (c.loop-node.next + k) (drop (c.loop-node.node + 1) net)) more ∙ ap (λ l. c.loop-node.made ++ sending_nodes c.loop-node.next l) (sym r.rest) ∙ c.loop-node.invariant.rest;
      next = omega (arith, c.loop-node.invariant.next, more, rest);
      count = ap length added ∙ length-last c.loop-node.made c.in_ok-sending_node.field-0 ∙ ap (λ k. k + 1) c.loop-node.invariant.count;
    }
