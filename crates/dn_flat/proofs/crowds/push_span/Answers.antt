-- One span more.
use Rattle.std.proofs.Common.{List, sym, subst}
use Rattle.std.proofs.lemmas.List.Elements.{All-push}
use Rattle.dn_flat.specs.declared.crowds.UnitSpan.{UnitSpan}
use Rattle.dn_flat.specs.Crowds.{AreAgentStops, AreCrowded, HoldAlongAll, IsAgentStop, IsCrowded}
use Rattle.dn_flat.proofs.crowds.push_span.Goals as goal

pub returns-in_ok-push-in-Some : goal.returns-in_ok-push-in-Some
returns-in_ok-push-in-Some c = record {
  crowds = λ net is old. subst (λ (cs : List UnitSpan). HoldAlongAll (IsCrowded net) cs) (sym c.in_ok-push-in-Some.ensures.items) (All-push (λ (k : UnitSpan). AreCrowded net k.unit k.span) c.args.spans.now.items (record { unit = c.args.unit; span = c.in-Some.span }) old (rw c.in-Some.is at is));
  stops = λ net is old. subst (λ (cs : List UnitSpan). HoldAlongAll (IsAgentStop net) cs) (sym c.in_ok-push-in-Some.ensures.items) (All-push (λ (k : UnitSpan). AreAgentStops net k.unit k.span) c.args.spans.now.items (record { unit = c.args.unit; span = c.in-Some.span }) old (rw c.in-Some.is at is));
}

pub returns-in-None : goal.returns-in-None
returns-in-None c = record {
  crowds = λ net is old. old;
  stops = λ net is old. old;
}
