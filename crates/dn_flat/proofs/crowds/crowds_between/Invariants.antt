-- The names that the ways so far give twice.
use Rattle.std.proofs.Common.{◌≤◌, List}
use Rattle.dn_net.specs.declared.node.NodeDecl.{NodeDecl}
use Rattle.dn_flat.specs.Crowds.{AreWays, HoldAlongAll, IsCrowded}
use Rattle.dn_flat.proofs.crowds.crowds_between.Given as goal

abbrev pub invariant-loop-at : goal.invariant-loop-at
invariant-loop-at l = record {
  before : l.top ≤ l.at;
  crowded : (net : List NodeDecl) → AreWays net l.ways → HoldAlongAll (IsCrowded net) l.crowds.items;
}
