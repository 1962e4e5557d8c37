-- The digits so far are the last ones, and the rest of the number has the others.
use Rattle.std.proofs.Common.{◌≡◌, ◌≤◌, ◌-◌, length, drop, false}
use Rattle.std.specs.Fmt.{digits_onto}
use Rattle.dn_print.proofs.address.put_digits.Given as goal

abbrev pub invariant-loop-place : goal.invariant-loop-place
invariant-loop-place l = record {
  behind : (l.end - 64) ≤ l.place;
  within : l.place ≤ l.end;
  long : length l.room ≡ 134;
  so_far : digits_onto (l.place - (l.end - 64)) 16 false l.rest (drop l.place l.room) ≡ digits_onto 64 16 false l.number (drop l.end l.fn.room);
}

abbrev pub decreases-loop-place : goal.decreases-loop-place
decreases-loop-place l = l.place
