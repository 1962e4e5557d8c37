-- The words so far are 0.
use Rattle.std.proofs.Common.{◌≡◌, ◌==◌, IsTrue, drop, take}
use Rattle.std.specs.List.{list_all}
use Rattle.dn_tables.proofs.words.are_zero.Given as goal

abbrev pub invariant-loop-at : goal.invariant-loop-at
invariant-loop-at l = record {
  last : l.at-end ≡ l.width;
  zero : IsTrue (list_all (λ w. w == 0) (take l.at (drop l.first l.words)));
}
