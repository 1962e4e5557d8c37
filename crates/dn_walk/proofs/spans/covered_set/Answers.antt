-- They are the addresses of all blocks.
use Rattle.std.proofs.Common.{◌∙◌, ap, sym}
use Rattle.std.specs.List.{list_any}
use Rattle.dn_base.proofs.Lists.{take_past}
use Rattle.dn_net.specs.Decode.{within}
use Rattle.dn_net.proofs.Stretch.{any_within}
use Rattle.dn_walk.proofs.spans.covered_set.Goals as goal

pub returns : goal.returns
returns c = λ a. c.loop-block.invariant a ∙ ap (list_any (within a)) (take_past c.args.blocks.now c.loop-block.block-index c.loop-block-test.false) ∙ sym (any_within a c.args.blocks.now)
