use Rattle.std.proofs.Common.{◌≡◌, drop}
use Rattle.dn_radix.specs.Tree.{are_all_zero}
use Rattle.dn_radix.proofs.leaves.is_zero.Given as goal

abbrev pub invariant-loop-word : goal.invariant-loop-word
invariant-loop-word l = are_all_zero l.words ≡ are_all_zero (drop l.word-index l.words)
