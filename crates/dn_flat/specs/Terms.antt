-- The words of the crate that clauses cite, from one place.
pub use Rattle.dn_flat.specs.Crowds.{AreAgentStops, AreCrowded, AreWays, HoldAlong, HoldAlongAll, IsAgentStop, IsCrowded, IsSpanAmong, IsWay}
pub use Rattle.dn_flat.specs.Firsts.{is_same, stays}
pub use Rattle.dn_flat.specs.Levels.{AreFlats, AreLevels, AreLevelsBelow, AreListed, AreSeers, AreStops, IsLevels, IsAgentListed, NearFrom, NodesReachTheirNames, ResolvesWhole, has_stops, is_among, leads_to_units, levels_give, levels_show, is_listed_for, shows, stops_in}
pub use Rattle.dn_flat.specs.Onward.{has_rows, leads_by, levels_lead, reach_leads, seg_leads, segs_lead}
pub use Rattle.dn_flat.specs.Stages.{AreReaches, GoesIn, IsDone, IsFlat, IsLedBy, IsLedTo, IsReach, IsStage}
pub use Rattle.dn_flat.specs.Stretches.{GivesAll, IsAlone, IsStretch, are_led, begins, is_led, is_part}
pub use Rattle.dn_flat.specs.Views.{ResolvesFrom, StopsFrom, ViewRowsAreNormal}
