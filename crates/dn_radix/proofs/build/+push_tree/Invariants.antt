use Rattle.std.proofs.Common.{◌≡◌, ◌+◌, ◌-◌, ◌*◌, ◌++◌, drop}
use Rattle.dn_radix.specs.Tree.{page_count, pages_of, pieces, room, tree, trees, joined_bytes}
use Rattle.dn_radix.proofs.build.+push_tree.Given as goal

abbrev pub decreases-push_tree : goal.decreases-push_tree
decreases-push_tree l = l.level

abbrev pub invariant-loop-k : goal.invariant-loop-k
invariant-loop-k l = record {
  pages : l.next + pages_of (page_count l.below) (pieces (512 - l.k) (room l.below) (drop (l.k * room l.below) l.leaves.words.now)) ≡ l.at + page_count l.level l.leaves.words.now;
  made : l.out.items ++ joined_bytes (trees (page_count l.below) (tree l.below) l.next (pieces (512 - l.k) (room l.below) (drop (l.k * room l.below) l.leaves.words.now))) ≡ l.fn.out.items ++ joined_bytes (tree l.level l.at l.leaves.words.now);
}
