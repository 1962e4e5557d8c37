use Rattle.std.proofs.Common.{◌<◌, ◌≤◌, ℕ, IsTrue}
use Rattle.dn_place.specs.Slots.{is_free_slot, slot_of}
use Rattle.dn_place.specs.Searches.{sought}
use Rattle.dn_place.proofs.slots.are_free.Given as goal

abbrev pub invariant-loop-slot : goal.invariant-loop-slot
invariant-loop-slot g l = (k : ℕ) → l.first ≤ k → k < l.slot → IsTrue (is_free_slot (slot_of (sought (λ k. (goal.UnitKind-dyn g k).meaning k.1) l.search).slots l.unit k))
