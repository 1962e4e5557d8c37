-- The segments so far are ways.
use Rattle.std.proofs.Common.{◌≡◌, ℕ, true, List, slice_get, IsTrue}
use Rattle.dn_interval.specs.declared.row.End.{End}
use Rattle.dn_interval.specs.Strands.{segs_give}
use Rattle.dn_net.specs.declared.node.NodeDecl.{NodeDecl}
use Rattle.dn_net.specs.Decode.{is_agent_at}
use Rattle.dn_flat.specs.Crowds.{AreWays}
use Rattle.dn_flat.specs.Views.{StopsFrom}
use Rattle.dn_flat.proofs.crowds.push_ways.Given as goal

abbrev pub invariant-loop-seg : goal.invariant-loop-seg
invariant-loop-seg l = (net : List NodeDecl) → IsTrue (is_agent_at (slice_get net l.agent)) → ((a : ℕ) (z : End) → segs_give l.segs a z ≡ true → StopsFrom net l.agent a z) → AreWays net l.initial.ways.items → AreWays net l.ways.items
