-- The words of the crate that clauses cite, from one place.
pub use Rattle.dn_view.specs.Addition.{RefusalIsComplete}
pub use Rattle.dn_view.specs.Courses.{IsCourse, course_records}
pub use Rattle.dn_view.specs.Exact.{IsAskedAt, IsExactAt, are_buffer, is_buffer_end, is_buffer_row, is_part_of_buffer}
pub use Rattle.dn_view.specs.KeptStops.{IsKeptStop, ListKeptStops}
pub use Rattle.dn_view.specs.Named.{AddsGiven, AddsOne, AddsPart, AddsThose, IsAtName}
pub use Rattle.dn_view.specs.Near.{end_near, first_slot_name, hop_near_by, hops_near, is_near, levels_near, name_count, row_near, rows_near}
pub use Rattle.dn_view.specs.Passes.{IsRun, in_slot, names_go, outputs, part_gives, part_leads, run_leads, seg_name, seg_passes, segs_pass, stops_of}
pub use Rattle.dn_view.specs.Records.{AreFitted, HoldsBelow, HoldsNone, IsFitted, IsFitting, fresh_record, records_taken}
pub use Rattle.dn_view.specs.Systems.{AreSystemTables, IsSystem}
pub use Rattle.dn_view.specs.Through.{ComesThrough}
pub use Rattle.dn_view.specs.Trials.{AreExactAmong, AreExactIn, ComesIn, IsExactIn, IsPassedIn, IsTrial, reading_trial}
pub use Rattle.dn_view.specs.Untouched.{can_meet, comes_on, has_hop, leads_on, leads_to_hops}
pub use Rattle.dn_view.specs.Views.{AreViewed, ReachesUnit, ResolvesFromUnder}
