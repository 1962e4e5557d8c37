use Rattle.dn_base.proofs.Placed.{placed}
use Rattle.dn_base.proofs.memory_tables.place_of.Goals as goal

pub returns-then-table-unit : goal.returns-then-table-unit
returns-then-table-unit c =
    placed c.args.tables.now c.loop-at.at c.args.unit c.args.word c.index-tables-at.result c.loop-at-test.true c.index-tables-at.is c.if-table-unit.true c.loop-at.invariant.there c.loop-at.invariant.passed
