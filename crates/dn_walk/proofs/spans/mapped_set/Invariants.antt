-- The addresses of the map blocks so far.
use Rattle.std.proofs.Common.{◌≡◌, ℕ, take}
use Rattle.std.specs.List.{list_any}
use Rattle.dn_interval.specs.Spans.{has}
use Rattle.dn_net.specs.Decode.{within}
use Rattle.dn_walk.proofs.spans.mapped_set.Given as goal

abbrev pub invariant-loop-place : goal.invariant-loop-place
invariant-loop-place l = (a : ℕ) → has l.mapped a ≡ list_any (λ p. within a p.block) (take l.place-index l.maps)
