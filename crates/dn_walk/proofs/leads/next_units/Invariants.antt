-- For each node so far the units to which it leads.
use Rattle.std.proofs.Common.{◌≡◌, ◌<◌, ℕ, [], get_or, length}
use Rattle.dn_net.specs.Decode.{unit_at}
use Rattle.dn_walk.specs.Units.{leads_by_lows, next_units_by}
use Rattle.dn_walk.proofs.leads.next_units.Given as goal

abbrev pub invariant-loop-node : goal.invariant-loop-node
invariant-loop-node l = record {
  size : length l.next.items ≡ l.node;
  each : (u : ℕ) → u < l.node → get_or l.next.items u [] ≡ next_units_by (leads_by_lows l.nodes l.lows.items) l.units (unit_at l.checked.net.now u);
}
