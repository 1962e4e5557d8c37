use Rattle.std.proofs.Common.{◌≤◌, arith, subst, sym}
use Rattle.std.proofs.Math.Nat.{max-le}
use Rattle.dn_session.proofs.Most.{one_more}
use Rattle.dn_session.proofs.room.most_slots.Goals as goal

pub units-preserved : goal.units-preserved
units-preserved g c = record {
  rest = one_more c.args.system.on.net.now c.args.size c.units.node c.units.most c.slots_at.result c.max-most.result c.units-test.true c.units.invariant.there c.units.invariant.rest c.slots_at.ensures.value c.max-most.ensures;
  there = (let l = c.units.invariant.there in omega (arith, l));
  few = subst (λ n. n ≤ 262145) (sym c.max-most.ensures) (max-le c.slots_at.ensures.few c.units.invariant.few);
}
