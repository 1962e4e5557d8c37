use Rattle.std.proofs.Common.{◌≡◌, false, length, take}
use Rattle.dn_scope.specs.Uses.{has_twice}
use Rattle.dn_scope.proofs.Naming.{param_words}
use Rattle.dn_scope.proofs.titles.Titles.of_params.Given as goal

abbrev pub invariant-loop-i : goal.invariant-loop-i
invariant-loop-i l = record {
  end : l.i-end ≡ length l.params;
  words : l.words ≡ param_words (take l.i l.params);
  once : has_twice (param_words (take l.i l.params)) ≡ false;
}
