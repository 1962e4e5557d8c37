use Rattle.std.proofs.Common.{◌∙◌, sym, arith}
use Rattle.dn_flight.proofs.Counts.{landed_next}
use Rattle.dn_flight.proofs.flights.next_in_flight.Goals as goal

pub loop-at-preserved : goal.loop-at-preserved
loop-at-preserved c = record {
  last = c.loop-at.invariant.last;
  within = (let l = c.loop-at-test.true in let e = c.loop-at.invariant.last in omega arith);
  landed = landed_next c.args.lookups.now c.loop-at.at c.loop-at.invariant.landed (sym c.is_flying_at.ensures ∙ c.if-is_flying_at.false);
}
