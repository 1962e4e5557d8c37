-- The levels that are left, of which those taken away had no row.
use Rattle.std.proofs.Common.{◌≡◌, ◌<◌, length, drop}
use Rattle.std.specs.List.{flat_map}
use Rattle.dn_walk.proofs.walks.last_rows.Given as goal

abbrev pub invariant-loop-sorted : goal.invariant-loop-sorted
invariant-loop-sorted l = record {
  some : 0 < length l.sorted.items;
  rows : flat_map (λ x. x) (drop 1 l.sorted.items) ≡ flat_map (λ x. x) (drop 1 l.initial.sorted.items);
}

abbrev pub decreases-loop-sorted : goal.decreases-loop-sorted
decreases-loop-sorted l = length l.sorted.items
