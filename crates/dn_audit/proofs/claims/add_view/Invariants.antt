-- What was added, and what the rows of the view that are still to come add.
use Rattle.std.proofs.Common.{◌≡◌, ℕ, ◌||◌, drop, length}
use Rattle.std.specs.List.{list_any}
use Rattle.dn_interval.specs.declared.row.Row.{Row}
use Rattle.dn_audit.specs.Claims.{claimed, row_has}
use Rattle.dn_audit.proofs.claims.add_view.Given as goal

abbrev pub invariant-loop-row : goal.invariant-loop-row
invariant-loop-row l = record {
  count : length l.claims.items ≡ length l.initial.claims.items;
  claimed : (node seer a : ℕ) → (claimed l.claims.items node seer a || list_any (λ (r : Row). row_has l.view.agent r node seer a) (drop l.row-index l.all)) ≡ (claimed l.initial.claims.items node seer a || list_any (λ (r : Row). row_has l.view.agent r node seer a) l.all);
}
