-- The sets of the nodes so far.
use Rattle.std.proofs.Common.{◌≡◌, ℕ, ◌<◌, [], length, get_or, slice_get}
use Rattle.dn_interval.specs.Spans.{has}
use Rattle.dn_net.specs.Decode.{is_accepted_at}
use Rattle.dn_walk.proofs.accepted.accepted_sets.Given as goal

abbrev pub invariant-loop-node : goal.invariant-loop-node
invariant-loop-node l = record {
  every : length l.sets.items ≡ l.node;
  same : (n a : ℕ) → n < l.node → has (get_or l.sets.items n []) a ≡ is_accepted_at a (slice_get l.checked.net.now n);
}
