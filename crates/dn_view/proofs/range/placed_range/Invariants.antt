use Rattle.std.proofs.Common.{◌≡◌, ℕ, ◌≤◌, ◌<◌, ◌⊎◌, drop}
use Rattle.dn_placement.specs.Records.{hops_records, placed_records}
use Rattle.dn_view.proofs.range.placed_range.Given as goal

abbrev pub invariant-loop-place : goal.invariant-loop-place
invariant-loop-place l = record {
  there : l.range.1 ≤ l.slots;
  rest : (slot : ℕ) → (slot < l.range.0) ⊎ (l.range.1 ≤ slot) → placed_records l.checked.net.now l.request l.placement l.node slot ≡ hops_records l.checked.net.now l.request.size l.request.rights l.placement.own l.place (drop l.place l.hops) l.node slot;
}
