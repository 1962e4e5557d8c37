use Rattle.std.proofs.Common.{◌+◌, ◌≤◌, ◌^◌, arith}
use Rattle.dn_book.proofs.Hops.{are_small, AreSmall}
use Rattle.dn_book.proofs.slots.end_slot.Goals as goal

pub overflow_add-result : goal.overflow_add-result
overflow_add-result c =
    let s : AreSmall c.args.unit.now c.args.size c.args.hop.now = are_small c.args.unit.now c.args.size c.args.hop.now c.requires in
    let i : c.args.hop.now.x + c.args.size ≤ 2 ^ 58 = s.input in
    omega arith
