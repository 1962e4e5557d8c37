-- The rows of the node's accept blocks are in range, and have the addresses of the blocks.
use Rattle.std.proofs.Common.{◌≡◌, ◌∙◌, ap, ℕ, slice_get, option_map}
use Rattle.std.proofs.lemmas.Result.{IfOk-weaker}
use Rattle.dn_base.proofs.Lists.{item_there}
use Rattle.dn_interval.specs.Spans.{has}
use Rattle.dn_net.specs.declared.node.NodeDecl.{NodeDecl}
use Rattle.dn_net.specs.Decode.{in_some_block, is_accepted_at}
use Rattle.dn_walk.proofs.Accepts.{accepted_by}
use Rattle.dn_walk.proofs.Nodes.{node_in_range}
use Rattle.dn_walk.proofs.accepted.accepted_set.Goals as goal

pub covered_set-requires : goal.covered_set-requires
covered_set-requires c =
    let d = item_there c.args.net.now c.args.node c.requires.there in
    c.accept_rows.ensures.in_range d.0 d.1 (node_in_range c.args.net.now c.requires.rules.each c.args.node d.0 d.1).0

pub returns : goal.returns
returns c =
    let d = item_there c.args.net.now c.args.node c.requires.there in
    let range = (node_in_range c.args.net.now c.requires.rules.each c.args.node d.0 d.1).0 in
    IfOk-weaker c.covered_set.result (λ s. (a : ℕ) → has s a ≡ in_some_block a c.accept_rows.result.now) (λ s. (a : ℕ) → has s a ≡ is_accepted_at a (slice_get c.args.net.now c.args.node)) (λ s h. accepted_by (slice_get c.args.net.now c.args.node) d.0.accepts s range (ap (option_map (λ (n : NodeDecl). n.accepts)) d.1) (λ a. h a ∙ c.accept_rows.ensures.same d.0 d.1 a)) c.covered_set.ensures
