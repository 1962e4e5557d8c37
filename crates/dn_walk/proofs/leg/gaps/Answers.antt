-- What neither the accept blocks nor the map blocks have are the gaps.
use Rattle.std.proofs.Common.{◌≡◌, ◌∙◌, ℕ, ◌&&◌, Ok, Err, Result, List, map, option_map, Option, Some, sym, ap}
use Rattle.std.specs.Result.{IfOk}
use Rattle.dn_base.proofs.Lists.{item_there}
use Rattle.dn_interval.specs.declared.span.Span.{Span}
use Rattle.dn_interval.specs.Spans.{has, AreMaximal}
use Rattle.dn_net.specs.declared.node.NodeDecl.{NodeDecl}
use Rattle.dn_net.specs.Decode.{is_accepted_at}
use Rattle.dn_net.proofs.Latest.{order_in_range}
use Rattle.dn_walk.specs.Legs.{span_view, gaps_by}
use Rattle.dn_walk.proofs.Nodes.{gaps_are, node_in_range}
use Rattle.dn_walk.proofs.leg.gaps.Goals as goal

pub mapped_set-requires : goal.mapped_set-requires
mapped_set-requires c =
    let d = item_there c.args.checked.net.now c.args.node c.requires.there in
    order_in_range d.0.entries c.entry_order.result.now (c.entry_order.ensures.every d.0 d.1) (node_in_range c.args.checked.net.now c.args.checked.rules.each c.args.node d.0 d.1).1

left : {E : Type 0} (o : Option NodeDecl) (n : NodeDecl) → o ≡ Some n → (unaccepted unmapped : List Span) → ((met : List Span) → ((a : ℕ) → has met a ≡ (has unaccepted a && has unmapped a)) → AreMaximal met → map span_view met ≡ gaps_by n.accepts n.entries) → (r : Result (List Span) E) → IfOk r (λ met. (a : ℕ) → has met a ≡ (has unaccepted a && has unmapped a)) → IfOk r (λ met. AreMaximal met) → IfOk r (λ met. option_map (λ d. gaps_by d.accepts d.entries) o ≡ Some (map span_view met))
left o n at unaccepted unmapped f (Ok met) same maximal = ap (option_map (λ (d : NodeDecl). gaps_by d.accepts d.entries)) at ∙ ap Some (sym (f met same maximal))
left o n at unaccepted unmapped f (Err e) same maximal = tt

pub returns : goal.returns
returns c =
    let net = c.args.checked.net.now in
    let d = item_there net c.args.node c.requires.there in
    left _ d.0 d.1 c.in_ok-unaccepted.unaccepted c.in_ok-unmapped.unmapped
    (gaps_are d.0 (node_in_range net c.args.checked.rules.each c.args.node d.0 d.1) c.entry_order.result.now (c.entry_order.ensures.every d.0 d.1) c.in_ok-accepted.accepted c.in_ok-mapped.mapped c.in_ok-unaccepted.unaccepted c.in_ok-unmapped.unmapped (λ a. c.in_ok-accepted.ensures a ∙ ap (is_accepted_at a) d.1) c.in_ok-mapped.ensures c.in_ok-unaccepted.ensures.same c.in_ok-unmapped.ensures.same)
    c.meet.result c.meet.ensures.same c.meet.ensures.maximal
