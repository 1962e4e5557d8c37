-- The levels so far, and that none of them has a cycle.
use Rattle.std.proofs.Common.{◌≡◌, ℕ, ◌≤◌, ◌-◌, length, true, None, map}
use Rattle.dn_walk.specs.Legs.{bare_legs}
use Rattle.dn_walk.specs.Levels.{AreWalkLevels, bare_level}
use Rattle.dn_walk.specs.Ways.{least_of, start_names}
use Rattle.dn_walk.proofs.walks.walks.Given as goal

abbrev pub invariant-levels : goal.invariant-levels
invariant-levels l = record {
  levels : AreWalkLevels (map bare_legs l.net) l.levels;
  shallow : length l.levels.sorted.items ≤ 64;
  acyclic : (k : ℕ) → 1 ≤ k → k ≤ length l.levels.sorted.items → least_of (start_names true (bare_level (map bare_legs l.net) k)) ≡ None;
}

abbrev pub decreases-levels : goal.decreases-levels
decreases-levels l = 64 - length l.levels.sorted.items
