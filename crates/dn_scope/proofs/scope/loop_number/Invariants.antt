use Rattle.std.proofs.Common.{◌≡◌, ◌≤◌, length, take, map, reverse}
use Rattle.dn_scope.specs.Replace.{value_for_word}
use Rattle.dn_scope.proofs.scope.loop_number.Given as goal

abbrev pub invariant-loop-left : goal.invariant-loop-left
invariant-loop-left l = record {
  within : l.left ≤ length l.loops;
  same : value_for_word l.word (reverse (map (λ n. (n.word.now, n.number)) l.loops)) ≡ value_for_word l.word (reverse (map (λ n. (n.word.now, n.number)) (take l.left l.loops)));
}

abbrev pub decreases-loop-left : goal.decreases-loop-left
decreases-loop-left l = l.left
