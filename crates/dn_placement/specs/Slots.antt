-- Slots as a placement meets them: the records that they hold, and which of them are free or owned.
use Rattle.std.specs.Prelude.{◌≡◌, ℕ, Bool, ◌&&◌, ◌==◌, not, List, is_some, Some, IsTrue}
use Rattle.std.specs.List.{list_all}
use Rattle.dn_net.specs.declared.node.NodeDecl.{NodeDecl}
use Rattle.dn_kind.specs.declared.unit_kind.Record.{Record}
use Rattle.dn_kind.specs.Kind.{Meaning}
use Rattle.dn_kind.specs.Rights.{both_rights}
use Rattle.dn_kind.specs.Tables.{AreHeld, Held, slot_words}
use Rattle.dn_tables.specs.declared.table.NodeTable.{NodeTable}
use Rattle.dn_tables.specs.Set.{record_kept, use_in, width_in, words_in}

-- the record of each slot, whether no live grant uses it, and whether one owns it: by the number of
-- the unit's node and that of the slot
pub record Slots : Type 0 where
  pub held : Held
  pub is_free : ℕ → ℕ → Bool
  pub has_owner : ℕ → ℕ → Bool

-- slots whose records their units can hold; one that is free holds none, and one that has no owner
-- holds none but with both rights
pub record AreProper (net : List NodeDecl) (slots : Slots) : Type 0 where
  pub held : AreHeld net slots.held
  pub empty : (node slot : ℕ) → IsTrue (slots.is_free node slot) →
      (r : Record) → slots.held node slot ≡ Some r → ⊥
  pub shared : (node slot : ℕ) (r : Record) → slots.held node slot ≡ Some r →
      IsTrue (not (slots.has_owner node slot)) → r.rights ≡ both_rights

-- the words of a slot are 0
abbrev pub is_zero_slot : List NodeTable → ℕ → ℕ → Bool
is_zero_slot set node slot =
    list_all (λ w. w == 0) (slot_words (width_in set node) (words_in set node) slot)

-- a slot of a set is free where it has no use and its words are 0
abbrev pub is_free_in : List NodeTable → ℕ → ℕ → Bool
is_free_in set node slot = ((use_in set node slot).uses == 0) && is_zero_slot set node slot

-- a slot of a set has an owner
abbrev pub has_owner_in : List NodeTable → ℕ → ℕ → Bool
has_owner_in set node slot = is_some (use_in set node slot).owner

-- the slots of a set of tables by these kinds
abbrev pub slots_of_set : List Meaning → List NodeTable → Slots
slots_of_set kinds set = record {
  held = record_kept kinds set;
  is_free = is_free_in set;
  has_owner = has_owner_in set;
}
