-- One node more, or one that has too many parts.
use Rattle.std.proofs.Common.{rules, ◌≡◌, ◌∙◌, ◌+◌, ◌-◌, ◌≤◌, ◌++◌, ◌∷◌, [], suc, nat_lt, false, true, ap, sym, subst, drop, length, arith, List, None, Some, IsTrue, append_assoc, append-nil}
use Rattle.std.proofs.Math.ListN.{drop_of_length-le}
use Rattle.std.proofs.lemmas.Bool.{le-ltb}
use Rattle.dn_base.proofs.Lists.{length-last}
use Rattle.dn_net.specs.declared.node.NodeDecl.{NodeDecl}
use Rattle.dn_net.specs.Decode.{is_formed}
use Rattle.dn_net.specs.Parts.{parts_of_node}
use Rattle.dn_net.proofs.Steps.{node_at}
use Rattle.dn_net.proofs.Faults.{part_is}
use Rattle.dn_shape.specs.Absorb.{node_past, nodes_past, net_past}
use Rattle.dn_shape.specs.Limits.{node_of_few_parts, part_limit, parts_of_net}
use Rattle.dn_shape.proofs.Led.{past_formed, past_differ}
use Rattle.dn_shape.proofs.Limited.{all_made, made_at, node_none, none_made}
use Rattle.dn_shape.proofs.Named.{new_node}
use Rattle.dn_shape.proofs.Read.{rest_at, passed_now, passed_later}
use Rattle.dn_shape.proofs.absorb.nodes_past.Goals as goal

pub returns-in_default : goal.returns-in_default
returns-in_default c =
    let net = c.args.net.now in
    let m = c.args.past in
    let i = c.loop-node.node in
    let r = rest_at net i (omega (arith, c.nodes-node-end.ensures, c.loop-node-test.true)) in
    let room = c.loop-node.room in
    let none : c.in_ok-found.found ≡ None = search rules in
    let is : node_of_few_parts room (node_past net m i r.node) ≡ None = part_is (λ n. node_of_few_parts room (node_past net m i n)) _ r.node c.in_ok-found.found r.at c.in_ok-found.ensures ∙ none in
    none_made (net_past net m) (c.loop-node.invariant.parts ∙ ap (λ l. nat_lt room (parts_of_net (nodes_past net m i l))) r.rest ∙ passed_now room (parts_of_node (node_past net m i r.node)) (parts_of_net (nodes_past net m (suc i) (drop (i + 1) net))) (node_none room (node_past net m i r.node) is))

pub add-requires-clause-formed : goal.add-requires-clause-formed
add-requires-clause-formed c =
    let net = c.args.net.now in
    let i = c.loop-node.node in
    let d = made_at net c.args.past i c.loop-node.room c.in-Some.decl c.in_ok-found.found (omega (arith, c.nodes-node-end.ensures, c.loop-node-test.true)) c.in_ok-found.ensures (search rules) in
    subst (λ n. IsTrue (is_formed n)) d.is (past_formed net c.args.past i d.old.node (node_at is_formed net i c.requires.legal.is_net.formed d.old.node d.old.at))

pub add-requires-clause-new_name : goal.add-requires-clause-new_name
add-requires-clause-new_name c =
    let net = c.args.net.now in
    let i = c.loop-node.node in
    let d = made_at net c.args.past i c.loop-node.room c.in-Some.decl c.in_ok-found.found (omega (arith, c.nodes-node-end.ensures, c.loop-node-test.true)) c.in_ok-found.ensures (search rules) in
    new_node c.loop-node.made (nodes_past net c.args.past (suc i) (drop (i + 1) net)) _ (node_past net c.args.past i d.old.node) c.in-Some.decl d.is (ap (λ l. c.loop-node.made ++ nodes_past net c.args.past i l) (sym d.old.rest) ∙ c.loop-node.invariant.rest) (past_differ net c.args.past c.requires.legal.is_net.names_differ)

pub loop-node-preserved : goal.loop-node-preserved
loop-node-preserved c =
    let net = c.args.net.now in
    let m = c.args.past in
    let i = c.loop-node.node in
    let d = made_at net m i c.loop-node.room c.in-Some.decl c.in_ok-found.found (omega (arith, c.nodes-node-end.ensures, c.loop-node-test.true)) c.in_ok-found.ensures (search rules) in
    let r = d.old in
    let k : parts_of_node (node_past net m i r.node) ≡ c.parts_of-room.result = ap parts_of_node d.is ∙ sym c.parts_of-room.ensures in
    let few : c.parts_of-room.result ≤ c.loop-node.room = omega (arith, k, d.few) in
    let added = c.in_ok-add.ensures.ok.1 in
    let next : i + 1 ≡ suc i = omega arith in
    record {
      rest = ap (λ l. l ++ nodes_past net m (i + 1) (drop (i + 1) net)) (added ∙ ap (λ n. c.loop-node.made ++ n ∷ []) (sym d.is)) ∙ append_assoc c.loop-node.made (node_past net m i r.node ∷ []) (nodes_past net m (i + 1) (drop (i + 1) net)) ∙ ap (λ j. c.loop-node.made ++ node_past net m i r.node ∷ nodes_past net m j (drop (i + 1) net)) next ∙ ap (λ l. c.loop-node.made ++ nodes_past net m i l) (sym r.rest) ∙ c.loop-node.invariant.rest;
      count = ap length added ∙ length-last c.loop-node.made c.in-Some.decl ∙ ap (λ j. j + 1) c.loop-node.invariant.count;
      parts = c.loop-node.invariant.parts ∙ ap (λ l. nat_lt c.loop-node.room (parts_of_net (nodes_past net m i l))) r.rest ∙ passed_later c.loop-node.room (parts_of_node (node_past net m i r.node)) c.parts_of-room.result (parts_of_net (nodes_past net m (suc i) (drop (i + 1) net))) k few ∙ ap (λ j. nat_lt (c.loop-node.room - c.parts_of-room.result) (parts_of_net (nodes_past net m j (drop (i + 1) net)))) (sym next);
    }

pub returns : goal.returns
returns c =
    let net = c.args.net.now in
    let m = c.args.past in
    let i = c.loop-node.node in
    let nil : drop i net ≡ [] = drop_of_length-le net (omega (arith, c.nodes-node-end.ensures, c.loop-node-test.false)) in
    let whole : c.loop-node.made ≡ net_past net m = sym (append-nil c.loop-node.made) ∙ ap (λ l. c.loop-node.made ++ nodes_past net m i l) (sym nil) ∙ c.loop-node.invariant.rest in
    all_made (net_past net m) c.loop-node.made whole (c.loop-node.invariant.parts ∙ ap (λ l. nat_lt c.loop-node.room (parts_of_net (nodes_past net m i l))) nil ∙ le-ltb c.loop-node.room 0 (omega arith))
