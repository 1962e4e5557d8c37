use Rattle.std.proofs.Common.{◌≡◌, drop, length}
use Rattle.dn_net.specs.Units.{has_plain_units}
use Rattle.dn_net.proofs.net.Net.has_plain_units.Given as goal

abbrev pub invariant-loop-node : goal.invariant-loop-node
invariant-loop-node l = record {
  last : l.node-end ≡ length l.self;
  same : has_plain_units l.self ≡ has_plain_units (drop l.node l.self);
}
