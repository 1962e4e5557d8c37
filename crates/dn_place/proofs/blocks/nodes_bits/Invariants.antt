-- The nodes so far send whole blocks.
use Rattle.std.proofs.Common.{◌≡◌, ℕ, ◌%◌, ◌^◌, ◌<◌}
use Rattle.dn_place.specs.Blocks.{SendsBlocks}
use Rattle.dn_place.proofs.blocks.nodes_bits.Given as goal

abbrev pub invariant-loop-node : goal.invariant-loop-node
invariant-loop-node g l = (block : ℕ) → l.bits % 2 ^ block ≡ 0 → (n : ℕ) → n < l.node → SendsBlocks l.system.on.net.now (2 ^ block) n
