-- The words of the crate that clauses cite, from one place.
pub use Rattle.dn_base.specs.Answers.{Answers, Checks}
pub use Rattle.dn_base.specs.Device.{KeepsEvent, Logged, PlacedAt, UnitSize, has_unit, has_word, is_device_fault, log_told, log_with, sizes_of, told_with, with_word, words_of_unit}
pub use Rattle.dn_base.specs.Faults.{is_input_fault, is_write_fault}
pub use Rattle.dn_base.specs.Memory.{IsCall, faults_of, no_calls}
pub use Rattle.dn_base.specs.Outside.{Added, AtEnd, Faults, IsCounted, IsWritten, Taken, TakenAtMost, input_limit, next_count}
pub use Rattle.dn_base.specs.Paged.{ArePaged, NoneFrom, item_at}
pub use Rattle.dn_base.specs.Stream.{stream_faults}
