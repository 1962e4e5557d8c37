use Rattle.std.proofs.Common.{◌≡◌}
use Rattle.dn_tables.proofs.Kept.{placed_in}
use Rattle.dn_tables.proofs.table.NodeTable.clear.Goals as goal

pub clear_all-requires-clause-room : goal.clear_all-requires-clause-room
clear_all-requires-clause-room g c =
    let same : c.from.result ≡ c.args.self.now.width = c.from.ensures in
    rw same (placed_in c.args.self.now c.args.slot c.requires.slot).room
