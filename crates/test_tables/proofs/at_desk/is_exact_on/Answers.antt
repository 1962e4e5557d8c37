use Rattle.std.proofs.Common.{rules, ◌≤◌}
use Rattle.dn_kind.specs.Kinded.{kinds_of}
use Rattle.dn_placement.specs.Slots.{slots_of_set}
use Rattle.test_tables.proofs.Parts.{part_placed}
use Rattle.test_tables.proofs.at_desk.is_exact_on.Goals as goal

pub exact-requires-clause-placed : goal.exact-requires-clause-placed
exact-requires-clause-placed g c =
    let ks = kinds_of (λ k. (goal.UnitKind-dyn g k).meaning k.1) c.args.desk.now.system.on.kinds.now in
    let some : 1 ≤ c.args.size = search rules in
    let less : c.args.size ≤ c.args.request.now.size = search rules in
    rw c.tables-tables.ensures (rw c.part_of-part.ensures
    (part_placed c.args.desk.now.system.on.net.now (slots_of_set ks c.args.desk.now.book.set) c.args.request.now c.args.size c.args.rights c.args.placement.now
    some less c.requires.placed))
