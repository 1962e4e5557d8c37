use Rattle.std.proofs.Common.{rules}
use Rattle.dn_tables.proofs.Kept.{placed_in}
use Rattle.dn_tables.proofs.table.NodeTable.slot_words.Goals as goal

pub read-requires-clause-room : goal.read-requires-clause-room
read-requires-clause-room c =
    let r = (placed_in c.args.self.now c.args.slot c.requires).room in
    search rules
