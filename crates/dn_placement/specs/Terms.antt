-- The words of the crate that clauses cite, from one place.
pub use Rattle.dn_placement.specs.Exposure.{IsAdmissible}
pub use Rattle.dn_placement.specs.Order.{FirstIsOne, IsAt, IsFirst, NoneSuited, PlacementsAreOrdered, hop_page}
pub use Rattle.dn_placement.specs.Placement.{IsFreeHop, IsPlacement, Leads, Meets}
pub use Rattle.dn_placement.specs.Records.{first_slot, hop_record, hop_rights, last_slot, or_record, placed_records, slot_record}
pub use Rattle.dn_placement.specs.Roles.{is_vectors_at}
pub use Rattle.dn_placement.specs.Slots.{is_free_in, is_zero_slot, slots_of_set}
