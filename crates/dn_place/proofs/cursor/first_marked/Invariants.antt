use Rattle.std.proofs.Common.{◌≡◌, ℕ, ◌-◌, ◌<◌, ◌≤◌, false, get_or, length}
use Rattle.dn_place.specs.Marks.{mark_at}
use Rattle.dn_place.proofs.cursor.first_marked.Given as goal

abbrev pub invariant-units : goal.invariant-units
invariant-units l = record {
  onward : l.from ≤ l.next;
  none : (k : ℕ) → l.from ≤ k → k < l.next → mark_at l.reach.first.items l.reach.second.items l.reach.third.items l.place (get_or l.units k 0) ≡ false;
}

abbrev pub decreases-units : goal.decreases-units
decreases-units l = length l.units - l.next
