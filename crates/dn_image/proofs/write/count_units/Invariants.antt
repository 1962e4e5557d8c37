use Rattle.std.proofs.Common.{◌≡◌, ◌+◌, ◌≤◌, drop, length}
use Rattle.dn_image.specs.Image.{unit_count}
use Rattle.dn_image.proofs.write.count_units.Given as goal

abbrev pub invariant-loop-node : goal.invariant-loop-node
invariant-loop-node l = record {
  last : l.node-end ≡ length l.net;
  few : l.count ≤ l.node;
  whole : l.count + unit_count (drop l.node l.net) ≡ unit_count l.net;
}
