use Rattle.dn_place.specs.Marks.{MarkedBefore}
use Rattle.dn_place.proofs.marks.mark_after.Given as goal

abbrev pub invariant-loop-unit : goal.invariant-loop-unit
invariant-loop-unit g l = MarkedBefore l.system.on.net.now l.from l.units l.unit-index l.marks
