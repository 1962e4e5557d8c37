-- The addresses of the blocks so far.
use Rattle.std.proofs.Common.{◌≡◌, ℕ, take}
use Rattle.std.specs.List.{list_any}
use Rattle.dn_interval.specs.Spans.{has}
use Rattle.dn_net.specs.Decode.{within}
use Rattle.dn_walk.proofs.spans.covered_set.Given as goal

abbrev pub invariant-loop-block : goal.invariant-loop-block
invariant-loop-block l = (a : ℕ) → has l.covered a ≡ list_any (λ b. within a b) (take l.block-index l.blocks)
