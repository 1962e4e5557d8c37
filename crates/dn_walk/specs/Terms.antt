-- The words of the crate that clauses cite, from one place.
pub use Rattle.dn_walk.specs.Ends.{name_of_end}
pub use Rattle.dn_walk.specs.Legs.{AreLegs, BareLeg, bare_entry_legs, bare_gap_legs, bare_legs, dest_leg, gap_leg, gaps_by, leg_before, leg_view, place_legs, span_view}
pub use Rattle.dn_walk.specs.Levels.{AreWalkLevels, IsRowOf, IsWideWhere, bare_before, bare_extensions, bare_extensions_by, bare_meets, bare_onto, bare_still_walks, bare_walks}
pub use Rattle.dn_walk.specs.Rows.{AreAccepted, AreWalksOf, bare_walk, row_view, walk_fault_view}
pub use Rattle.dn_walk.specs.Units.{AreLows, IsLeastShown, chain_by, first_over, fork_before, leads_by_lows, lesser_fork, next_by_rows, next_units_by, shows_fork, with_shown}
pub use Rattle.dn_walk.specs.Ways.{bare_leads, is_cyclic, least_of, lesser_name, level_leads, shown_fault, start_name, start_names, walk_levels_lead}
