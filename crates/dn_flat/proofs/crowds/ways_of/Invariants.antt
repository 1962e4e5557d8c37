-- The ways of the nodes so far.
use Rattle.dn_flat.specs.Crowds.{AreWays}
use Rattle.dn_flat.proofs.crowds.ways_of.Given as goal

abbrev pub invariant-loop-node : goal.invariant-loop-node
invariant-loop-node l = AreWays l.net l.ways.items
