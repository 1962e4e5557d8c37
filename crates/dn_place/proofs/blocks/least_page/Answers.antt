-- One node more, and all.
use Rattle.std.proofs.Common.{arith}
use Rattle.dn_place.proofs.BlockRows.{least_more}
use Rattle.dn_place.proofs.Pages.{unit_there}
use Rattle.dn_place.proofs.blocks.least_page.Goals as goal

pub loop-node-preserved : goal.loop-node-preserved
loop-node-preserved g c = record {
  most = omega (arith, c.min-least.ensures, c.loop-node.invariant.most);
  below = least_more c.args.system.on.net.now c.loop-node.node c.loop-node.least c.page_at.result c.min-least.result (omega (arith, c.min-least.ensures)) (omega (arith, c.min-least.ensures)) c.loop-node.invariant.below c.page_at.ensures;
}

pub returns-clause-least : goal.returns-clause-least
returns-clause-least g c = λ n u e. c.loop-node.invariant.below n u (omega (arith, unit_there c.args.system.on.net.now n u e, c.loop-node-test.false, c.nodes-node-end.ensures)) e
