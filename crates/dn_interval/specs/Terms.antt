-- The words of the crate that clauses cite, from one place.
pub use Rattle.dn_interval.specs.Listed.{ListedRowsAreNormal, NormalRowsAreListed, seen_view}
pub use Rattle.dn_interval.specs.Onward.{RowsGoOn, gives_by, row_goes, rows_go, rows_of, seg_goes}
pub use Rattle.dn_interval.specs.Rows.{Apart, AreNormal, Ascending, EndsFit, GivenBy, HasEnds, Member, OneListOfRows, SegmentsGive, ends_within, further_end}
pub use Rattle.dn_interval.specs.Runs.{does_go_on, is_in_turn, row_of}
pub use Rattle.dn_interval.specs.Spans.{AreMaximal, OneListOfSpans, has, in_span}
pub use Rattle.dn_interval.specs.Strands.{IsMaximal, ends_give, is_slid, row_gives, rows_give, seg_gives, segs_give, slides_give, strand_cmp, strand_gives, strands_give}
