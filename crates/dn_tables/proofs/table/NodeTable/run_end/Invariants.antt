-- The slots so far are of the run.
use Rattle.std.proofs.Common.{◌-◌, ◌<◌, ◌≤◌, ℕ, Some}
use Rattle.dn_tables.specs.Set.{IsInRun}
use Rattle.dn_tables.proofs.table.NodeTable.run_end.Given as goal

abbrev pub invariant-slots : goal.invariant-slots
invariant-slots l = record {
  onward : l.from ≤ l.slot;
  most : l.from ≤ l.end → l.slot ≤ l.end;
  run : (k : ℕ) → l.from ≤ k → k < l.slot → IsInRun l.owned (Some l.self) k;
}

abbrev pub decreases-slots : goal.decreases-slots
decreases-slots l = l.end - l.slot
