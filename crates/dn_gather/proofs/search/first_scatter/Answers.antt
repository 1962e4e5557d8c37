use Rattle.std.proofs.Common.{arith}
use Rattle.dn_gather.proofs.Placing.{found_first, none_in_all, none_more}
use Rattle.dn_gather.proofs.search.first_scatter.Goals as goal

pub loop-unit-init : goal.loop-unit-init
loop-unit-init g c = λ unit v l. absurd (omega (arith, l))

pub returns-in-Some-clause-some : goal.returns-in-Some-clause-some
returns-in-Some-clause-some g c = found_first (λ k. (goal.UnitKind-dyn g k).meaning k.1) c.args.wanted c.loop-unit.unit c.in-Some.found (rw c.in-Some.is at c.in_ok-found.ensures.some) c.loop-unit.invariant

pub loop-unit-preserved : goal.loop-unit-preserved
loop-unit-preserved g c = none_more (λ k. (goal.UnitKind-dyn g k).meaning k.1) c.args.wanted c.loop-unit.unit c.loop-unit.invariant (c.in_ok-found.ensures.none c.in_default.is)

pub returns-clause-none : goal.returns-clause-none
returns-clause-none g c = λ is. none_in_all (λ k. (goal.UnitKind-dyn g k).meaning k.1) c.args.wanted c.requires.wanted c.loop-unit.unit (omega (arith, c.loop-unit-test.false, c.nodes-unit-end.ensures)) c.loop-unit.invariant
