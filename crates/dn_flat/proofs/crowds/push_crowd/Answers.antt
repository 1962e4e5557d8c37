-- The span that both ways give.
use Rattle.std.proofs.Common.{List}
use Rattle.dn_base.proofs.Told.{if_some_then, on_ok_then}
use Rattle.dn_interval.specs.declared.span.Span.{Span}
use Rattle.dn_net.specs.declared.node.NodeDecl.{NodeDecl}
use Rattle.dn_flat.specs.Crowds.{AreCrowded, IsWay}
use Rattle.dn_flat.proofs.crowds.push_crowd.Goals as goal

pub returns : goal.returns
returns c = on_ok_then c.push_span.result _ _
    (λ f net v w old. f net (if_some_then c.met.result (λ (s : Span). (net : List NodeDecl) → IsWay net c.args.one → IsWay net c.args.other → AreCrowded net c.args.other.seg.node s) (λ (s : Span). AreCrowded net c.args.other.seg.node s) (λ s g. g net v w) c.met.ensures) old)
    c.push_span.ensures.crowds
