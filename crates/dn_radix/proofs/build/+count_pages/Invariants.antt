use Rattle.std.proofs.Common.{◌≡◌, ◌+◌, ◌-◌, ◌*◌, drop}
use Rattle.dn_radix.specs.Tree.{page_count, pages_of, pieces, room}
use Rattle.dn_radix.proofs.build.+count_pages.Given as goal

abbrev pub decreases-count_pages : goal.decreases-count_pages
decreases-count_pages l = l.level

abbrev pub invariant-loop-k : goal.invariant-loop-k
invariant-loop-k l = l.count + pages_of (page_count l.below) (pieces (512 - l.k) (room l.below) (drop (l.k * room l.below) l.leaves.words.now)) ≡ page_count l.level l.leaves.words.now
