use Rattle.std.proofs.Common.{◌≡◌, take, length}
use Rattle.dn_script.proofs.radix.list_of.Given as goal

abbrev pub invariant-loop-at : goal.invariant-loop-at
invariant-loop-at l = record {
  end : l.at-end ≡ length l.words;
  so_far : l.list.items ≡ take l.at l.words;
}
