use Rattle.std.proofs.Common.{◌≡◌, ◌≤◌, ◌||◌, ℕ, drop}
use Rattle.std.specs.List.{list_any}
use Rattle.dn_interval.specs.Spans.{has}
use Rattle.dn_net.specs.Decode.{top}
use Rattle.dn_vector.specs.Vectors.{has_vector}
use Rattle.dn_vector.proofs.vectors.taken_vectors.Given as goal

abbrev pub invariant-loop-at : goal.invariant-loop-at
invariant-loop-at l = (a : ℕ) → a ≤ top → (has l.taken a || list_any (has_vector l.node a) (drop l.at l.grants.live)) ≡ list_any (has_vector l.node a) l.grants.live
