use Rattle.std.proofs.Common.{◌≡◌, ◌*◌, ◌<◌, ℕ, length, take, drop, get_or}
use Rattle.std.specs.Prelude.{◌==◌}
use Rattle.dn_radix.specs.Tree.{are_all_zero}
use Rattle.dn_radix.proofs.leaves.marks_of.Given as goal

abbrev pub invariant-loop-page : goal.invariant-loop-page
invariant-loop-page l = record {
  count : length l.marks.items ≡ l.page;
  marked : (i : ℕ) → i < l.page → are_all_zero (take 512 (drop (i * 512) l.words)) ≡ (get_or l.marks.items i 0 == 0);
}
