-- The words of the crate that clauses cite, from one place.
pub use Rattle.dn_tables.specs.Placement.{IsPlace}
pub use Rattle.dn_tables.specs.Set.{FitsNet, HasSlot, IsEmpty, IsInRun, IsOnDevice, IsPackableIn, IsSet, KeepsFit, fits_by, fits_kinds, fresh_by, fresh_set, has_slot, is_sized, is_zero, no_use, packed_for, packed_in, record_kept, table_on_device, tables_of_set, unit_in, units_of, use_in, width_by, width_in, with_slot, with_use, with_words, words_in, words_of}
pub use Rattle.dn_tables.specs.Sizes.{no_faults, sizes_by}
pub use Rattle.dn_tables.specs.Uses.{use_by}
pub use Rattle.dn_tables.specs.Writes.{AreMade, AreUnitsMade, AreWordsWritten, clear_writes, clears_from, make_event, put_writes, writes_from}
