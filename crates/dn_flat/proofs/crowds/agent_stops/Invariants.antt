-- The names that the ways so far give.
use Rattle.std.proofs.Common.{List}
use Rattle.dn_net.specs.declared.node.NodeDecl.{NodeDecl}
use Rattle.dn_flat.specs.Crowds.{AreWays, HoldAlongAll, IsAgentStop}
use Rattle.dn_flat.proofs.crowds.agent_stops.Given as goal

abbrev pub invariant-loop-way : goal.invariant-loop-way
invariant-loop-way l = (net : List NodeDecl) → AreWays net l.ways → HoldAlongAll (IsAgentStop net) l.stops.items
