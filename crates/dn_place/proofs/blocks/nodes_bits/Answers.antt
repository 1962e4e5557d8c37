-- One node more, and all.
use Rattle.std.proofs.Common.{arith}
use Rattle.dn_place.proofs.BlockRows.{send_more}
use Rattle.dn_place.proofs.blocks.nodes_bits.Goals as goal

pub loop-node-preserved : goal.loop-node-preserved
loop-node-preserved g c = send_more c.args.system.on.net.now c.loop-node.node c.loop-node.bits c.node_bits-bits.result c.node_bits-bits.ensures c.loop-node.invariant

pub returns : goal.returns
returns g c = λ block e n l. c.loop-node.invariant block e n (omega (arith, l, c.loop-node-test.false, c.nodes-node-end.ensures))
