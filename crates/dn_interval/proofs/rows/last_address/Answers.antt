-- The least of the last addresses, and of the one before the rest.
use Rattle.std.proofs.Common.{arith}
use Rattle.dn_interval.proofs.Least.{least_begun, least_more, least_all}
use Rattle.dn_interval.proofs.rows.last_address.Goals as goal

pub loop-strand-init : goal.loop-strand-init
loop-strand-init c = record { below = omega arith; least = least_begun c.args.running.now c.before-hi.result }

pub loop-strand-preserved : goal.loop-strand-preserved
loop-strand-preserved c = record {
  below = omega (arith, c.min-hi.ensures);
  least = least_more c.args.running.now c.loop-strand.strand-index c.before-hi.result c.loop-strand.hi c.min-hi.result c.strand-item.result c.loop-strand-test.true c.strand-item.is c.min-hi.ensures c.loop-strand.invariant.least;
}

pub returns : goal.returns
returns c =
    let v = c.loop-strand.invariant in
    record {
      runs_on = λ k d l. v.least.least k d (omega (arith, c.loop-strand-test.false));
      later_ones = λ k d l. omega (arith, v.below, c.before-hi.ensures.below k d l);
      reached = least_all c.args.running.now c.args.rest.now c.loop-strand.strand-index c.before-hi.result c.loop-strand.hi v.least c.loop-strand-test.false c.requires.some c.before-hi.ensures.begins c.before-hi.ensures.none;
    }
