-- One node more.
use Rattle.std.proofs.Common.{◌∙◌, ap, ◌<◌, length, arith}
use Rattle.dn_walk.proofs.Parts.{units_pushed, units_passed}
use Rattle.dn_walk.proofs.leads.unit_numbers.Goals as goal
use Rattle.dn_walk.proofs.leads.unit_numbers.Goals.{then-is_unit+in_ok-push, else-is_unit}

pub loop-node-preserved : goal.loop-node-preserved
loop-node-preserved c =
    let last = c.loop-node.invariant.last in
    let there : c.loop-node.node < length c.args.net.now = omega (arith, last, c.loop-node-test.true) in
    record {
      last = last;
      same = elim c.if-is_unit.branch [
        | then-is_unit+in_ok-push w ↦ units_pushed c.args.net.now c.loop-node.node c.loop-node.units.items c.if-is_unit.units.items c.is_unit.result there c.is_unit.ensures.unit w.if-is_unit.true c.loop-node.invariant.same (ap (λ v. v.items) w.units-is ∙ w.in_ok-push.ensures.items)
        | else-is_unit w ↦ units_passed c.args.net.now c.loop-node.node c.loop-node.units.items c.if-is_unit.units.items c.is_unit.result there c.is_unit.ensures.unit w.if-is_unit.false c.loop-node.invariant.same (ap (λ v. v.items) w.units-is)
      ];
    }
