-- The nodes so far, for one step.
use Rattle.std.proofs.Common.{◌≡◌, ℕ, length, slice_get, Some}
use Rattle.dn_flat.specs.declared.reach.Reach.{Reach}
use Rattle.dn_flat.specs.Stages.{IsReach}
use Rattle.dn_flat.proofs.stage.first_stage.Given as goal

abbrev pub invariant-loop-node : goal.invariant-loop-node
invariant-loop-node l = record {
  every : length l.nodes.items ≡ l.node;
  each : (m : ℕ) (r : Reach) → slice_get l.nodes.items m ≡ Some r → IsReach l.checked.net.now 1 m r;
}
