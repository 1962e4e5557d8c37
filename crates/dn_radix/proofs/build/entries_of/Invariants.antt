use Rattle.std.proofs.Common.{◌≡◌, ◌+◌, ◌-◌, ◌*◌, ◌++◌, drop}
use Rattle.dn_radix.specs.Tree.{entries, page_count, pages_of, pieces, room}
use Rattle.dn_radix.proofs.build.entries_of.Given as goal

abbrev pub invariant-loop-k : goal.invariant-loop-k
invariant-loop-k l = record {
  pages : l.next + pages_of (page_count l.below) (pieces (512 - l.k) (room l.below) (drop (l.k * room l.below) l.leaves.words.now)) ≡ l.first + pages_of (page_count l.below) (pieces 512 (room l.below) l.leaves.words.now);
  made : l.list.items ++ entries (page_count l.below) l.next (pieces (512 - l.k) (room l.below) (drop (l.k * room l.below) l.leaves.words.now)) ≡ entries (page_count l.below) l.first (pieces 512 (room l.below) l.leaves.words.now);
}
