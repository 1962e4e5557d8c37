use Rattle.std.proofs.Common.{◌≡◌, drop}
use Rattle.std.specs.List.{list_all}
use Rattle.dn_net.specs.Rules.{block_in_range}
use Rattle.dn_net.proofs.rules.are_blocks_in_range.Given as goal

abbrev pub invariant-loop-block : goal.invariant-loop-block
invariant-loop-block l = list_all block_in_range l.blocks ≡ list_all block_in_range (drop l.block-index l.blocks)
