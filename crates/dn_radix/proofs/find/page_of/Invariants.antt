use Rattle.std.proofs.Common.{◌≡◌, ℕ, ◌+◌, ◌*◌, ◌<◌, ◌≤◌, length}
use Rattle.dn_radix.specs.Tree.{room}
use Rattle.dn_radix.specs.Found.{found}
use Rattle.dn_radix.proofs.find.page_of.Given as goal

abbrev pub invariant-loop-below : goal.invariant-loop-below
invariant-loop-below l = record {
  low : l.below ≤ 2;
  whole : l.page + 4096 ≤ length l.image;
  there : 512 * l.at < room l.below;
  found : (i : ℕ) → i < 512 → found l.image l.below (512 * l.at + i) l.page ≡ found l.image l.level (512 * l.number + i) 0;
}

abbrev pub decreases-loop-below : goal.decreases-loop-below
decreases-loop-below l = l.below
