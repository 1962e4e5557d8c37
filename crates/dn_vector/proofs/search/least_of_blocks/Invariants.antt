-- So far came the pass over the blocks.
use Rattle.std.proofs.Common.{drop}
use Rattle.dn_vector.proofs.Leasts.{IsTried}
use Rattle.dn_vector.proofs.search.least_of_blocks.Given as goal

abbrev pub invariant-loop-block : goal.invariant-loop-block
invariant-loop-block g l = IsTried l.asked.system.on.net.now l.asked.book.now.grants l.asked.agent l.asked.line l.asked.node l.blocks (drop l.block-index l.blocks) l.next
