use Rattle.std.proofs.Common.{◌+◌, ◌-◌, ◌*◌, ◌<◌, ◌≤◌, length, rules, arith}
use Rattle.dn_tables.proofs.Gates.{gate_of_width}
use Rattle.dn_tables.proofs.Kept.{placed_in}
use Rattle.dn_tables.proofs.table.NodeTable.gate.Goals as goal

pub get-requires : goal.get-requires
get-requires c =
    let s = placed_in c.args.self.now c.args.slot c.requires in
    let room = s.room in
    let least = s.least in
    let first = c.from.ensures in
    let last = c.from-2.ensures in
    let less : c.args.slot * c.args.self.now.width + (c.args.self.now.width - 1) < length c.args.self.now.words = omega (arith, room, least) in
    rw first (rw last less)

pub returns : goal.returns
returns c =
    let s = placed_in c.args.self.now c.args.slot c.requires in
    let gate = gate_of_width c.args.self.now.width c.args.slot c.args.self.now.words c.get.result s.least s.room in
    search rules
