use Rattle.std.proofs.Common.{drop}
use Rattle.dn_place.specs.Marks.{Keeps}
use Rattle.dn_place.proofs.Marked.{ListedLeft}
use Rattle.dn_place.proofs.marks.mark_all.Given as goal

abbrev pub invariant-loop-node : goal.invariant-loop-node
invariant-loop-node l = record { keeps : Keeps l.initial.marks l.marks; left : ListedLeft l.nodes (drop l.node-index l.nodes) l.marks }
