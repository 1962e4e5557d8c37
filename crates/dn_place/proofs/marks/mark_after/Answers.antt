use Rattle.dn_place.proofs.Marked.{before_on, before_all}
use Rattle.dn_place.proofs.marks.mark_after.Goals as goal

pub loop-unit-preserved : goal.loop-unit-preserved
loop-unit-preserved g c = before_on c.args.system.on.net.now c.args.from.now c.args.units.now c.loop-unit.unit-index c.loop-unit.marks c.mark_after_unit.new.marks c.mark_after_unit.auto.marks c.mark_after_unit.ensures.keeps c.mark_after_unit.ensures.marks c.loop-unit.invariant

pub returns : goal.returns
returns g c = before_all c.args.system.on.net.now c.args.from.now c.args.units.now c.loop-unit.unit-index c.loop-unit.marks c.loop-unit-test.false c.loop-unit.invariant
