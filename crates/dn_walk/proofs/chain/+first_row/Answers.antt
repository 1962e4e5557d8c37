-- A row begins with the unit, or with none so far.
use Rattle.std.proofs.Common.{◌∙◌, ◌<◌, Some, ap, sym, length, get_or, arith}
use Rattle.dn_walk.proofs.Overs.{over_none_left, over_too_few, over_no_more, over_at, over_found, over_passed, none_of}
use Rattle.dn_walk.proofs.chain.+first_row.Goals as goal
use Rattle.dn_walk.proofs.chain.+first_row.Goals.{then-most-eq0, else-most-eq0}

pub returns-then-left-eq0 : goal.returns-then-left-eq0
returns-then-left-eq0 t c = elim c.if-most-eq0.branch [
  | then-most-eq0 w ↦ w.result-is ∙ ap Some w.new.ensures ∙ sym (over_none_left c.args.checked.net.now c.args.next.now c.args.left c.args.most c.args.units.now c.if-left-eq0.true w.if-most-eq0.true)
  | else-most-eq0 w ↦ w.result-is ∙ sym (over_too_few c.args.checked.net.now c.args.next.now c.args.left c.args.most c.args.units.now c.if-left-eq0.true w.if-most-eq0.false)
]

pub returns-in-Some : goal.returns-in-Some
returns-in-Some t c =
    let below : get_or c.args.units.now c.loop-unit.unit-index 0 < length c.args.checked.net.now = c.requires.units c.loop-unit.unit-index 0 c.loop-unit-test.true in
    let there : c.from.result < length c.args.next.now = omega (arith, below, c.from.ensures, c.requires.size) in
    let here = over_at c.args.checked.net.now c.args.next.now c.args.left c.args.most c.loop-unit.unit-index c.args.units.now c.from.result c.slots.result c.index-next-from.result c.as_slice-behind.result.now c.in_ok-rest.rest c.if-left-eq0.false c.loop-unit-test.true c.from.ensures there c.index-next-from.is c.as_slice-behind.ensures c.slots.ensures.value c.slots.ensures.some c.in_ok-rest.ensures in
    ap Some c.in_ok-with_front.ensures ∙ sym (c.loop-unit.invariant ∙ over_found _ _ _ _ _ _ _ _ _ here c.in-Some.is)

pub loop-unit-preserved : goal.loop-unit-preserved
loop-unit-preserved t c =
    let below : get_or c.args.units.now c.loop-unit.unit-index 0 < length c.args.checked.net.now = c.requires.units c.loop-unit.unit-index 0 c.loop-unit-test.true in
    let there : c.from.result < length c.args.next.now = omega (arith, below, c.from.ensures, c.requires.size) in
    let here = over_at c.args.checked.net.now c.args.next.now c.args.left c.args.most c.loop-unit.unit-index c.args.units.now c.from.result c.slots.result c.index-next-from.result c.as_slice-behind.result.now c.in_ok-rest.rest c.if-left-eq0.false c.loop-unit-test.true c.from.ensures there c.index-next-from.is c.as_slice-behind.ensures c.slots.ensures.value c.slots.ensures.some c.in_ok-rest.ensures in
    c.loop-unit.invariant ∙ over_passed _ _ _ _ _ _ _ _ here (none_of c.in_ok-rest.rest c.in_default.not-Some)

pub returns : goal.returns
returns t c = sym (c.loop-unit.invariant ∙ over_no_more c.args.checked.net.now c.args.next.now c.args.left c.args.most c.loop-unit.unit-index c.args.units.now c.if-left-eq0.false c.loop-unit-test.false)
