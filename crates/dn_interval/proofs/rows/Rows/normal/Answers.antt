-- The rows give what the segments give.
use Rattle.dn_interval.proofs.Names.{are_normal, covers_same, rows_fit}
use Rattle.dn_interval.proofs.rows.Rows.normal.Goals as goal

pub invariant_of-result : goal.invariant_of-result
invariant_of-result c = record {
  apart = c.in_ok-rows.ensures.apart;
  fit = rows_fit c.args.segs.now c.in_ok-rows.rows.items c.in_ok-rows.ensures.same;
}

pub returns-clause-normal : goal.returns-clause-normal
returns-clause-normal c = are_normal c.args.segs.now c.in_ok-rows.rows.items c.in_ok-rows.ensures.apart c.in_ok-rows.ensures.same

pub returns-clause-covers : goal.returns-clause-covers
returns-clause-covers c = covers_same c.args.segs.now c.in_ok-rows.rows.items c.in_ok-rows.ensures.apart c.in_ok-rows.ensures.same
