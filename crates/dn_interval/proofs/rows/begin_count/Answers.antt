-- Those behind the first that begins elsewhere begin later too.
use Rattle.dn_interval.proofs.Following.{later_all}
use Rattle.dn_interval.proofs.rows.begin_count.Goals as goal

pub returns-then-strand-from-clause-later_ones : goal.returns-then-strand-from-clause-later_ones
returns-then-strand-from-clause-later_ones c =
    later_all c.args.rest.now c.args.from c.loop-i.i c.index-rest-i.result c.requires.later c.requires.sorted c.loop-i-test.true c.index-rest-i.is c.if-strand-from.true
