use Rattle.std.proofs.Common.{◌≡◌}
use Rattle.dn_tool.specs.Demo.{agent_rows, sum_below}
use Rattle.dn_tool.proofs.demo.all_rows.Given as goal

abbrev pub invariant-loop-node : goal.invariant-loop-node
invariant-loop-node g l = l.total ≡ sum_below (agent_rows l.fn.machine.on.net.now l.state.book.grants) l.node
