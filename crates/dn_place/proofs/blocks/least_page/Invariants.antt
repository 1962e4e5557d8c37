-- The page is one of those that are looked at, and none of a unit so far is smaller.
use Rattle.std.proofs.Common.{◌≡◌, ℕ, ◌<◌, ◌≤◌, Some}
use Rattle.dn_net.specs.declared.node.Unit.{Unit as UnitPart}
use Rattle.dn_net.specs.Decode.{unit_at}
use Rattle.dn_place.proofs.blocks.least_page.Given as goal

abbrev pub invariant-loop-node : goal.invariant-loop-node
invariant-loop-node g l = record {
  most : l.least ≤ 40;
  below : (n : ℕ) (u : UnitPart) → n < l.node → unit_at l.system.on.net.now n ≡ Some u → l.least ≤ u.page;
}
