-- One node more.
use Rattle.std.proofs.Common.{◌≡◌, ◌∙◌, ◌+◌, ◌||◌, true, ap, sym, drop, slice_get, arith}
use Rattle.std.specs.List.{list_any}
use Rattle.dn_shape.specs.Limits.{has_long_entry}
use Rattle.dn_shape.proofs.Read.{rest_at, long_by}
use Rattle.dn_shape.proofs.limits.has_long_entry.Goals as goal

pub returns-then-has_many_dests : goal.returns-then-has_many_dests
returns-then-has_many_dests c =
    let r = rest_at c.args.net.now c.loop-node.node (omega (arith, c.nodes-node-end.ensures, c.loop-node-test.true)) in
    let long : has_long_entry r.node ≡ true = long_by r.node (slice_get c.args.net.now c.loop-node.node) c.entries.result.now r.at c.entries.ensures ∙ sym c.has_many_dests.ensures ∙ c.if-has_many_dests.true in
    sym (c.loop-node.invariant ∙ ap (list_any has_long_entry) r.rest ∙ ap (λ b. b || list_any has_long_entry (drop (c.loop-node.node + 1) c.args.net.now)) long)

pub loop-node-preserved : goal.loop-node-preserved
loop-node-preserved c =
    let r = rest_at c.args.net.now c.loop-node.node (omega (arith, c.nodes-node-end.ensures, c.loop-node-test.true)) in
    let long = long_by r.node (slice_get c.args.net.now c.loop-node.node) c.entries.result.now r.at c.entries.ensures ∙ sym c.has_many_dests.ensures ∙ c.if-has_many_dests.false in
    c.loop-node.invariant ∙ ap (list_any has_long_entry) r.rest ∙ ap (λ b. b || list_any has_long_entry (drop (c.loop-node.node + 1) c.args.net.now)) long
