use Rattle.dn_place.proofs.Units.{Lists}
use Rattle.dn_place.proofs.marks.units_of.Given as goal

abbrev pub invariant-loop-node : goal.invariant-loop-node
invariant-loop-node l = Lists l.net l.node l.units.items
