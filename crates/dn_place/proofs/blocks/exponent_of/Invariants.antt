-- So many powers of two divide the number.
use Rattle.std.proofs.Common.{◌≡◌, ◌-◌, ◌%◌, ◌^◌, ◌≤◌}
use Rattle.dn_place.proofs.blocks.exponent_of.Given as goal

abbrev pub invariant-powers : goal.invariant-powers
invariant-powers l = record {
  few : l.block ≤ l.most;
  divides : l.bits % 2 ^ l.block ≡ 0;
}

abbrev pub decreases-powers : goal.decreases-powers
decreases-powers l = l.most - l.block
