use Rattle.std.proofs.Common.{◌≤◌, arith}
use Rattle.dn_view.proofs.Fitted.{small_unit}
use Rattle.dn_view.proofs.range.slot_range.Goals as goal

pub overflow_shr-first : goal.overflow_shr-first
overflow_shr-first c =
    let p : c.args.unit.now.page ≤ 40 = (small_unit c.args.checked.net.now c.args.seg.node c.args.unit.now c.args.checked.plain c.requires.unit).page in
    omega arith

pub overflow_shr-last : goal.overflow_shr-last
overflow_shr-last c =
    let p : c.args.unit.now.page ≤ 40 = (small_unit c.args.checked.net.now c.args.seg.node c.args.unit.now c.args.checked.plain c.requires.unit).page in
    omega arith
