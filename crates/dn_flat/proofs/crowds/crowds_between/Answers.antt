-- One way more, held against the one before it that goes furthest.
use Rattle.std.proofs.Common.{List, sym, subst, arith}
use Rattle.std.proofs.lemmas.List.Elements.{All-nil}
use Rattle.dn_flat.specs.declared.crowds.UnitSpan.{UnitSpan}
use Rattle.dn_flat.specs.Crowds.{AreCrowded, HoldAlongAll, IsCrowded, IsWay}
use Rattle.dn_flat.proofs.crowds.crowds_between.Goals as goal

pub loop-at-init : goal.loop-at-init
loop-at-init c = record {
  before = omega arith;
  crowded = λ net ways. subst (λ (cs : List UnitSpan). HoldAlongAll (IsCrowded net) cs) (sym c.new-crowds.ensures.items) (All-nil (λ (k : UnitSpan). AreCrowded net k.unit k.span));
}

pub loop-at-preserved : goal.loop-at-preserved
loop-at-preserved c = record {
  before = omega (arith, c.further-top.ensures);
  crowded = λ net ways. c.in_ok-push_crowd.ensures net (subst (IsWay net) (sym c.index-ways-top.is) (ways c.loop-at.top c.index-ways-top.result (omega (arith, c.loop-at.invariant.before, c.loop-at-test.true)))) (subst (IsWay net) (sym c.index-ways-at.is) (ways c.loop-at.at c.index-ways-at.result (omega (arith, c.loop-at-test.true)))) (c.loop-at.invariant.crowded net ways);
}
