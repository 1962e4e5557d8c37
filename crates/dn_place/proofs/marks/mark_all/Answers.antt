use Rattle.dn_place.proofs.Marked.{listed_begun, listed_done, listed_on}
use Rattle.dn_place.proofs.marks.mark_all.Goals as goal

pub loop-node-init : goal.loop-node-init
loop-node-init c = record { keeps = λ n m. m; left = listed_begun c.args.nodes.now c.args.marks.now }

pub loop-node-preserved : goal.loop-node-preserved
loop-node-preserved c = record {
  keeps = λ n m. c.mark.ensures.keeps n (c.loop-node.invariant.keeps n m);
  left = listed_on c.args.nodes.now c.loop-node.node-index c.loop-node.marks c.mark.new.marks c.loop-node-test.true c.mark.auto.marks c.mark.ensures.keeps c.mark.ensures.marked c.loop-node.invariant.left;
}

pub returns-clause-marks : goal.returns-clause-marks
returns-clause-marks c = listed_done c.args.nodes.now c.loop-node.node-index c.loop-node.marks c.loop-node-test.false c.loop-node.invariant.left
