-- What was added, and what the names of the row that are still to come add.
use Rattle.std.proofs.Common.{◌≡◌, ℕ, ◌||◌, drop, length}
use Rattle.std.specs.List.{list_any}
use Rattle.dn_interval.specs.declared.row.End.{End}
use Rattle.dn_audit.specs.Claims.{claimed, end_has}
use Rattle.dn_audit.proofs.claims.add_row.Given as goal

abbrev pub invariant-loop-end : goal.invariant-loop-end
invariant-loop-end l = record {
  count : length l.claims.items ≡ length l.initial.claims.items;
  claimed : (node seer a : ℕ) → (claimed l.claims.items node seer a || list_any (λ (e : End). end_has l.agent l.span e node seer a) (drop l.end-index l.ends)) ≡ (claimed l.initial.claims.items node seer a || list_any (λ (e : End). end_has l.agent l.span e node seer a) l.ends);
}
