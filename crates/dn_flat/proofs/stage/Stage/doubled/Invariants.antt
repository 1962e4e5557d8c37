-- The nodes so far, for twice as many steps.
use Rattle.std.proofs.Common.{◌≡◌, ℕ, ◌+◌, length, slice_get, Some}
use Rattle.dn_flat.specs.declared.reach.Reach.{Reach}
use Rattle.dn_flat.specs.Stages.{IsReach, AreReaches}
use Rattle.dn_flat.proofs.stage.Stage.doubled.Given as goal

abbrev pub invariant-loop-reach : goal.invariant-loop-reach
invariant-loop-reach l = record {
  every : length l.nodes.items ≡ l.reach-index;
  each : (k : ℕ) → AreReaches l.net k l.all → (m : ℕ) (r : Reach) → slice_get l.nodes.items m ≡ Some r → IsReach l.net (k + k) m r;
}
