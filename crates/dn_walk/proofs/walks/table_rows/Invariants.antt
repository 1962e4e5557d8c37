-- The levels that are left, and behind them the rows of those that were put, from the last to the first.
use Rattle.std.proofs.Common.{◌≡◌, ◌<◌, ◌++◌, length, drop, reverse}
use Rattle.std.specs.List.{flat_map}
use Rattle.dn_walk.proofs.walks.table_rows.Given as goal

abbrev pub invariant-loop-sorted : goal.invariant-loop-sorted
invariant-loop-sorted l = record {
  some : 0 < length l.sorted.items;
  rows : flat_map (λ x. x) (drop 1 l.sorted.items) ++ reverse l.rows.items ≡ flat_map (λ x. x) (drop 1 l.initial.sorted.items) ++ reverse l.initial.rows.items;
}

abbrev pub decreases-loop-sorted : goal.decreases-loop-sorted
decreases-loop-sorted l = length l.sorted.items
