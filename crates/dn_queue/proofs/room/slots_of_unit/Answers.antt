use Rattle.std.proofs.Common.{◌+◌, ◌≤◌, ◌^◌, arith}
use Rattle.dn_book.proofs.Hops.{are_small, AreSmall}
use Rattle.dn_queue.proofs.room.slots_of_unit.Goals as goal

pub overflow_add-last : goal.overflow_add-last
overflow_add-last c =
    let s : AreSmall c.args.unit.now c.args.size c.args.hop.now = are_small c.args.unit.now c.args.size c.args.hop.now c.requires in
    let i : c.args.hop.now.x + c.args.size ≤ 2 ^ 58 = s.input in
    omega arith
