-- The words of the crate that clauses cite, from one place.
pub use Rattle.dn_kind.specs.Cleared.{ClearedTablesAllow, LawOfAccess}
pub use Rattle.dn_kind.specs.Kind.{IsLawful, IsPackable, Meaning, gate_word, is_plain_unit_shape, is_within, kind_place}
pub use Rattle.dn_kind.specs.Kinded.{AreKinds, IsKinded, IsShaped, kinds_of}
pub use Rattle.dn_kind.specs.Levels.{are_there, name_list}
pub use Rattle.dn_kind.specs.Rights.{allows, are_rights, both_rights}
pub use Rattle.dn_kind.specs.Tables.{AreHeld, Held, HeldRecordsFit, MoreRecordsKeepNames, NamesUnderAreResolved, ReachUnderIsWithin, allowing, output, record_held, record_of_unit, record_within, resolved_names_under, slot_words, step_limit_under, steps_under}
pub use Rattle.dn_kind.specs.Units.{IsLegalWith, KeepsUnitShape, ShapeFaultIsFirst, has_kind, has_shape, is_shaped, shape_fault, unit_fault_view, unit_shape}
pub use Rattle.dn_kind.specs.Ways.{ChainPassesSlots, LegalOneRowOfSlots, LegalOneWayToUnit, OneRowOfSlots, OneWayToUnit}
