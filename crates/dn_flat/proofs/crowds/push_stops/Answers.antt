-- The span that the way gives.
use Rattle.std.proofs.Common.{List}
use Rattle.dn_base.proofs.Told.{if_some_then, on_ok_then}
use Rattle.dn_interval.specs.declared.span.Span.{Span}
use Rattle.dn_net.specs.declared.node.NodeDecl.{NodeDecl}
use Rattle.dn_flat.specs.Crowds.{AreAgentStops, IsWay}
use Rattle.dn_flat.proofs.crowds.push_stops.Goals as goal

pub returns : goal.returns
returns c = on_ok_then c.push_span.result _ _
    (λ f net v old. f net (if_some_then c.given.result (λ (s : Span). (net : List NodeDecl) → IsWay net c.args.way → AreAgentStops net c.args.way.seg.node s) (λ (s : Span). AreAgentStops net c.args.way.seg.node s) (λ s g. g net v) c.given.ensures) old)
    c.push_span.ensures.stops
