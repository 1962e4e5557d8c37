use Rattle.std.proofs.Common.{◌<◌, ◌≤◌, ℕ, IsTrue}
use Rattle.dn_placement.specs.Slots.{is_free_in}
use Rattle.test_tables.proofs.own.are_free.Given as goal

abbrev pub invariant-loop-slot : goal.invariant-loop-slot
invariant-loop-slot l = (k : ℕ) → l.first ≤ k → k < l.slot → IsTrue (is_free_in l.tables l.unit k)
