-- The nodes so far are exact.
use Rattle.std.proofs.Common.{ℕ, ◌<◌, get_or, slice_get, IsTrue}
use Rattle.dn_net.specs.Decode.{is_agent_at}
use Rattle.dn_view.specs.Trials.{IsExactIn}
use Rattle.dn_view.proofs.exact.are_exact.Given as goal

abbrev pub invariant-loop-node : goal.invariant-loop-node
invariant-loop-node g l =
    (k : ℕ) → k < l.node-index → IsTrue (is_agent_at (slice_get l.trial.system.on.net.now (get_or l.nodes k 0))) → IsExactIn (λ k. (goal.UnitKind-dyn g k).meaning k.1) l.trial (get_or l.nodes k 0)
