use Rattle.std.proofs.Common.{◌∙◌, sym}
use Rattle.dn_radix.proofs.Zeros.{marked_zero}
use Rattle.dn_radix.proofs.leaves.are_zero.Goals as goal

pub returns : goal.returns
returns c = c.is_zero.ensures ∙ sym (marked_zero c.args.leaves.words.now c.args.leaves.marks.now c.args.leaves.marked)
