-- One way more.
use Rattle.std.proofs.Common.{List, sym, subst}
use Rattle.std.proofs.lemmas.List.Elements.{All-nil}
use Rattle.dn_flat.specs.declared.crowds.UnitSpan.{UnitSpan}
use Rattle.dn_flat.specs.Crowds.{AreAgentStops, HoldAlongAll, IsAgentStop, IsWay}
use Rattle.dn_flat.proofs.crowds.agent_stops.Goals as goal

pub loop-way-init : goal.loop-way-init
loop-way-init c = λ net ways. subst (λ (cs : List UnitSpan). HoldAlongAll (IsAgentStop net) cs) (sym c.new-stops.ensures.items) (All-nil (λ (k : UnitSpan). AreAgentStops net k.unit k.span))

pub loop-way-preserved : goal.loop-way-preserved
loop-way-preserved c = λ net ways.
    c.in_ok-push_stops.ensures net (subst (IsWay net) (sym c.way-item.is) (ways c.loop-way.way-index c.way-item.result c.loop-way-test.true)) (c.loop-way.invariant net ways)
