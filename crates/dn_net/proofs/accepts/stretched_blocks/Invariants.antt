use Rattle.std.proofs.Common.{◌≡◌, ◌++◌, drop}
use Rattle.dn_net.proofs.Stretch.{raised}
use Rattle.dn_net.proofs.accepts.stretched_blocks.Given as goal

abbrev pub invariant-loop-block : goal.invariant-loop-block
invariant-loop-block l = l.rows.items ++ raised l.reach (drop l.block-index l.blocks) ≡ raised 0 l.blocks
