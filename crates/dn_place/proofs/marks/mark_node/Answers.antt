use Rattle.std.proofs.Common.{List, ℕ, subst}
use Rattle.dn_place.specs.Marks.{MarksListed}
use Rattle.dn_place.proofs.Marked.{stops_mark}
use Rattle.dn_place.proofs.marks.mark_node.Goals as goal

pub returns-then-node-nodes-clause-marks : goal.returns-then-node-nodes-clause-marks
returns-then-node-nodes-clause-marks g c = λ l. stops_mark c.args.system.on.net.now c.args.node c.of.result.now c.mark_all.new.marks (c.requires.system.flat.each c.args.node c.of.result.now c.of.ensures) (subst (λ (ns : List ℕ). MarksListed ns c.mark_all.new.marks) c.as_slice.ensures c.mark_all.ensures.marks)
