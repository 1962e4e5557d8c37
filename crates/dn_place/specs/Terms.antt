-- The words of the crate that clauses cite, from one place.
pub use Rattle.dn_place.specs.Blocks.{HasBeside, HasBlocks, SendsBlocks, ShowsWithin, Tells, end_fits, layers_fit, row_fits, rows_fit}
pub use Rattle.dn_place.specs.Candidates.{CanOwn, IsAddressed, IsChosen, IsFirstOrNone, IsUnder, NoneUnder, PagesBelow, PagesFrom, key_of_hops, to_address, to_output, to_page, to_port, to_unit}
pub use Rattle.dn_place.specs.Cursors.{AreAllToCome, AreAllUseless, AreExitsOf, AreInputs, GoesByInputs, HasNoneUsable, HasRange, IsCursor, IsInputRange, IsNextUsable, IsOutputIn, IsUsableInput}
pub use Rattle.dn_place.specs.Exits.{AreExits, AreExitsTo, AreOutputs, IsAloneBefore, IsExit, IsExitSearch, IsLone, IsRankedExit, Passing, exit_rank}
pub use Rattle.dn_place.specs.Hops.{hops_view}
pub use Rattle.dn_place.specs.KeptNames.{AreKeptNames, IsNamed}
pub use Rattle.dn_place.specs.Marks.{AreMarked, AreUnitsFrom, IsEntry, Keeps, MarkedBefore, Marks, MarksAfter, MarksAll, MarksListed, is_marked, mark_at}
pub use Rattle.dn_place.specs.Preimages.{ArePreimages, IsPreimage, IsWayBack, IsWayTo, LeadsAlone}
pub use Rattle.dn_place.specs.Reaches.{IsHopReach}
pub use Rattle.dn_place.specs.Requests.{IsRequest}
pub use Rattle.dn_place.specs.Rows.{AreToward, GivesNone, GivesStops, InRow, IsClear, is_past, wanted_name}
pub use Rattle.dn_place.specs.Searches.{Advances, EndsInputs, HandsOut, IsSearch, NoneToCome, StandsAt, sought}
pub use Rattle.dn_place.specs.Slots.{AreBarred, AreFree, AreFreeTo, AreShut, AreUsable, AreUseless, HasCrowd, HasSeenStop, IsBarred, IsNextTry, IsSlotRun, IsWithin, MayTry, is_barred_slot, is_free_slot, is_usable_slot, shared_slot, slot_of}
pub use Rattle.dn_place.specs.Sought.{HaveUnitBounds, HasUnitBounds, IsSearchReady, ReachOneStop, no_slots, slot_count}
pub use Rattle.dn_place.specs.Targets.{is_target_at, refused_address}
