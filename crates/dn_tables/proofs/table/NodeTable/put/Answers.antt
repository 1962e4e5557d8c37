use Rattle.dn_tables.proofs.table.NodeTable.put.Goals as goal

pub pack-requires-clause-packable : goal.pack-requires-clause-packable
pack-requires-clause-packable g c = λ kind at. c.requires.packable c.in-Some.part kind c.in-Some.is at
