-- What is told of each node so far.
use Rattle.std.proofs.Common.{◌≡◌, ◌<◌, ℕ, false, get_or, length}
use Rattle.dn_net.specs.Decode.{unit_at}
use Rattle.dn_flat.specs.Levels.{leads_to_units}
use Rattle.dn_flat.proofs.seers.leading.Given as goal

abbrev pub invariant-loop-node : goal.invariant-loop-node
invariant-loop-node l = record {
  size : length l.leads.items ≡ l.node;
  each : (n : ℕ) → n < l.node → get_or l.leads.items n false ≡ leads_to_units l.nodes (unit_at l.net n);
}
