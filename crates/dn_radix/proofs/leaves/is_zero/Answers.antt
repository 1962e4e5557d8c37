use Rattle.std.proofs.Common.{◌∙◌, ap, sym}
use Rattle.std.proofs.Math.ListN.{drop_of_length-le}
use Rattle.dn_radix.specs.Tree.{are_all_zero}
use Rattle.dn_radix.proofs.leaves.is_zero.Goals as goal

pub returns : goal.returns
returns c = sym (c.loop-word.invariant ∙ ap are_all_zero (drop_of_length-le c.args.words.now c.loop-word-test.false))
