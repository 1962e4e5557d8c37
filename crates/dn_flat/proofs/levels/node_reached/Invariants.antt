-- What is reached in fewer steps, and in exactly so many.
use Rattle.std.proofs.Common.{◌≡◌, ℕ, ◌≤◌, ◌↔◌, true}
use Rattle.dn_interval.specs.declared.row.End.{End}
use Rattle.dn_interval.specs.declared.span.TheConstants.{TOP}
use Rattle.dn_interval.specs.Strands.{segs_give}
use Rattle.dn_net.specs.Decode.{is_stop}
use Rattle.dn_flat.specs.Stages.{EndsBefore}
use Rattle.dn_flat.proofs.Reached.{AreReached, Goes}
use Rattle.dn_flat.proofs.levels.node_reached.Given as goal

abbrev pub invariant-loop-steps : goal.invariant-loop-steps
invariant-loop-steps l = record {
  levels : AreReached l.net l.steps l.node l.levels;
  stops : (a : ℕ) (y : End) → a ≤ TOP → (segs_give l.stops.items a y ≡ true) ↔ EndsBefore l.net (is_stop l.net) l.steps l.node a y;
  reached : Goes l.net l.steps l.node l.reached.items;
}
