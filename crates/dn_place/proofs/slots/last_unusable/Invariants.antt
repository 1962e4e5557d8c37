use Rattle.std.proofs.Common.{◌≤◌, ◌+◌, ◌-◌, ℕ, IsTrue}
use Rattle.dn_place.specs.Slots.{is_usable_slot, slot_of}
use Rattle.dn_place.specs.Searches.{sought}
use Rattle.dn_place.proofs.slots.last_unusable.Given as goal

abbrev pub invariant-slots : goal.invariant-slots
invariant-slots g l = record {
  most : l.end ≤ l.last + 1;
  usable : (k : ℕ) → l.first ≤ k → l.end ≤ k → k ≤ l.last → IsTrue (is_usable_slot l.port (l.page + (k - l.first)) (slot_of (sought (λ k. (goal.UnitKind-dyn g k).meaning k.1) l.search).slots l.unit k));
}

abbrev pub decreases-slots : goal.decreases-slots
decreases-slots g l = l.end
