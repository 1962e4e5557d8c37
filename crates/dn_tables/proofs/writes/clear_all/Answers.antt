use Rattle.dn_tables.proofs.Made.{cleared_in_order}
use Rattle.dn_tables.proofs.writes.clear_all.Goals as goal

pub returns-clause-written : goal.returns-clause-written
returns-clause-written g c =
    cleared_in_order c.args.unit c.args.first c.args.width c.from.result c.from-2.result _ _ _ _ _ _ _ _ _ _ c.from.ensures c.from-2.ensures c.requires.most c.in_ok-write_all.ensures.written c.write_all-2.ensures.written
