use Rattle.std.proofs.Common.{rules, ap, Some, ◌≤◌, ◌+◌, length}
use Rattle.dn_base.proofs.Parts.{piece_given, piece_taken}
use Rattle.dn_base.proofs.memory.MemSourceSource.read.Goals as goal

pub returns-clause-taken : goal.returns-clause-taken
returns-clause-taken c =
    let s = c.copy_from_slice.ensures.after in
    let room : c.self.inside.at + c.min-count.result ≤ length c.self.inside.bytes.items = search rules in
    rw (← c.self.view_is)
    (ap Some (piece_taken c.self.inside.bytes.items c.args.into.now c.copy_from_slice.new.self c.self.inside.at c.min-count.result room (rw c.deref.ensures.value at s)))

pub returns-clause-gave : goal.returns-clause-gave
returns-clause-gave c =
    let s = c.copy_from_slice.ensures.after in
    let room : c.self.inside.at + c.min-count.result ≤ length c.self.inside.bytes.items = search rules in
    rw (← c.self.view_is)
    (piece_given c.self.inside.bytes.items c.args.into.now c.copy_from_slice.new.self c.self.inside.at c.min-count.result room (rw c.deref.ensures.value at s))
