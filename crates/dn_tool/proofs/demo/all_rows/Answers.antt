use Rattle.std.proofs.Common.{◌≡◌, ◌∙◌, ap, sym, arith, ℕ, ◌+◌, length}
use Rattle.dn_tool.specs.Demo.{agent_rows, sum_below}
use Rattle.dn_tool.proofs.Demos.{sum_more, sum_none}
use Rattle.dn_tool.proofs.demo.all_rows.Goals as goal

pub loop-node-init : goal.loop-node-init
loop-node-init g c = sym (sum_none _)

pub loop-node-preserved : goal.loop-node-preserved
loop-node-preserved g c =
    c.in_ok-total.ensures
    ∙ ap (λ (n : ℕ). n + c.in_ok-rows.rows) c.loop-node.invariant
    ∙ ap (λ (n : ℕ). sum_below (agent_rows c.args.machine.on.net.now c.args.state.now.book.grants) c.loop-node.node + n) c.in_ok-rows.ensures
    ∙ sym (sum_more (agent_rows c.args.machine.on.net.now c.args.state.now.book.grants) c.loop-node.node)

pub returns : goal.returns
returns g c =
    let end : c.nodes-node-end.result ≡ length c.args.machine.on.net.now = c.nodes-node-end.ensures in
    let all : c.loop-node.node ≡ length c.args.machine.on.net.now = omega (arith, end, c.loop-node-test.false, c.loop-node.auto.node-end) in
    c.loop-node.invariant ∙ ap (sum_below (agent_rows c.args.machine.on.net.now c.args.state.now.book.grants)) all
