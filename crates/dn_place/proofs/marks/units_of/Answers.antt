use Rattle.std.proofs.Common.{arith}
use Rattle.dn_place.proofs.Units.{lists_begun, lists_done, lists_on}
use Rattle.dn_place.proofs.marks.units_of.Goals as goal

pub loop-node-init : goal.loop-node-init
loop-node-init c = rw c.in_ok-units.ensures.items (lists_begun c.args.net.now)

pub loop-node-preserved : goal.loop-node-preserved
loop-node-preserved c = lists_on c.args.net.now c.loop-node.node c.loop-node.units.items c.push_unit.new.units.items c.in_ok-push_unit.ensures.unit c.in_ok-push_unit.ensures.none c.loop-node.invariant

pub returns : goal.returns
returns c = lists_done c.args.net.now c.loop-node.node c.loop-node.units.items (omega (arith, c.loop-node-test.false, c.nodes-node-end.ensures)) c.loop-node.invariant
