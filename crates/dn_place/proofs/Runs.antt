-- Slots of a set of tables that are free, or owned.
use Rattle.std.proofs.Common.{◌≡◌, ℕ, List, Bool, true, false, if◌then◌else◌, ◌==◌, ◌&&◌, slice_get, Option, Some, None, IsTrue, refl, ap}
use Rattle.dn_kind.specs.declared.unit_kind.Record.{Record}
use Rattle.dn_kind.specs.Kind.{Meaning}
use Rattle.dn_tables.specs.declared.table.NodeTable.{NodeTable}
use Rattle.dn_tables.specs.Set.{IsInRun, use_in}
use Rattle.dn_tables.specs.Uses.{IsOwned}
use Rattle.dn_placement.specs.Slots.{has_owner_in, is_free_in, is_zero_slot, slots_of_set}
use Rattle.dn_place.specs.declared.slot_state.SlotState.TheVariants.{Free}
use Rattle.dn_place.specs.Slots.{is_barred_slot, is_free_slot, is_in_run, shared_slot, slot_of}

-- a slot that a live grant owns is barred
owned_barred : (kinds : List Meaning) (set : List NodeTable) (unit slot : ℕ) → IsOwned (use_in set unit slot) → IsTrue (is_barred_slot (slot_of (slots_of_set kinds set) unit slot))
owned_barred kinds set unit slot o =
    let used : is_free_in set unit slot ≡ false = ap (λ n. (n == 0) && is_zero_slot set unit slot) o.alone in
    by (is_free_in set unit slot) (has_owner_in set unit slot) ((slots_of_set kinds set).held unit slot) used o.owner
  where
    by : (free owned : Bool) (held : Option Record) → free ≡ false → owned ≡ true → is_barred_slot (if free then Free else shared_slot owned held) ≡ true
    by true owned held e f = cc
    by false false held e f = cc
    by false true None e f = refl
    by false true (Some r) e f = refl

-- a slot of a run is free, or barred where that is asked
pub run_is : (barred : Bool) (kinds : List Meaning) (set : List NodeTable) (unit slot : ℕ) → IsInRun barred (slice_get set unit) slot → IsTrue (is_in_run barred (slot_of (slots_of_set kinds set) unit slot))
run_is true kinds set unit slot o = owned_barred kinds set unit slot o
run_is false kinds set unit slot f =
    ap (λ b. is_free_slot (if b then Free else shared_slot (has_owner_in set unit slot) ((slots_of_set kinds set).held unit slot))) f
