-- The nodes of the segments so far are listed.
use Rattle.dn_flat.proofs.Among.{AreAmong}
use Rattle.dn_flat.proofs.units.nodes_of.Given as goal

abbrev pub invariant-loop-seg : goal.invariant-loop-seg
invariant-loop-seg l = AreAmong l.nodes.items l.seg-index l.segs
