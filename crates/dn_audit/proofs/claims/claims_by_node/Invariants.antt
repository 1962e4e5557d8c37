-- No claims yet, for as many nodes; what was added, and what the views that are still to come add.
use Rattle.std.proofs.Common.{◌≡◌, ℕ, ◌||◌, [], drop, length, replicate}
use Rattle.std.specs.List.{list_any}
use Rattle.dn_audit.specs.declared.report.Seen.{Seen}
use Rattle.dn_audit.specs.Claims.{claimed, view_has, views_have}
use Rattle.dn_audit.proofs.claims.claims_by_node.Given as goal

abbrev pub invariant-loop : goal.invariant-loop
invariant-loop l = l.claims.items ≡ replicate l.counter []

abbrev pub invariant-loop-view : goal.invariant-loop-view
invariant-loop-view l = record {
  count : length l.claims.items ≡ l.count;
  claimed : (node seer a : ℕ) → (claimed l.claims.items node seer a || list_any (λ (s : Seen). view_has s node seer a) (drop l.view-index l.views)) ≡ views_have l.views node seer a;
}
