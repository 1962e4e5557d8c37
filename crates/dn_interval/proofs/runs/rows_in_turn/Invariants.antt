-- The rows so far, the current segment, and the segments that are still to come.
use Rattle.std.proofs.Common.{drop}
use Rattle.dn_interval.proofs.Turns.{Turning}
use Rattle.dn_interval.proofs.runs.rows_in_turn.Given as goal

abbrev pub invariant-loop-seg : goal.invariant-loop-seg
invariant-loop-seg l = Turning l.rows.items l.current (drop l.seg-index l.rest) l.segs
