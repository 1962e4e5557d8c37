-- The layers of an agent's stops give its ways.
use Rattle.std.proofs.Common.{◌≡◌, ◌∙◌, ◌+◌, ◌-◌, ◌&&◌, ◌||◌, ℕ, true, [], List, slice_get, IsTrue, sym, ap}
use Rattle.dn_base.proofs.Told.{on_ok_then}
use Rattle.dn_interval.specs.declared.row.End.{End}
use Rattle.dn_interval.specs.declared.row.Seg.{Seg}
use Rattle.dn_interval.specs.Spans.{in_span}
use Rattle.dn_interval.specs.Strands.{segs_give}
use Rattle.dn_net.specs.declared.node.NodeDecl.{NodeDecl}
use Rattle.dn_net.specs.Decode.{is_agent_at}
use Rattle.dn_flat.specs.Crowds.{AreWays}
use Rattle.dn_flat.specs.Levels.{levels_give}
use Rattle.dn_flat.specs.Views.{StopsFrom}
use Rattle.dn_flat.proofs.Crowded.{whole_stops}
use Rattle.dn_flat.proofs.crowds.add_ways.Goals as goal

pub returns : goal.returns
returns c =
    let net = c.args.net.now in
    let agent = c.args.node in
    let w : Seg = c.whole.result in
    let layers = c.as_slice-layers.result.now in
    let segs = c.push_given.new.segs.items in
    let is : IsTrue (is_agent_at (slice_get net agent)) = sym c.is_agent.ensures ∙ c.if-not-is_agent.false in
    let gives : (a : ℕ) (z : End) → segs_give segs a z ≡ (segs_give [] a z || (in_span w.span a && levels_give layers (w.base + (a - w.span.lo)) z)) = λ a z.
    c.in_ok-push_given.ensures a z ∙ ap (λ (l : List Seg). segs_give l a z || (in_span w.span a && levels_give layers (w.base + (a - w.span.lo)) z)) c.new-segs.ensures.items in
    let stops = whole_stops net agent c.of.result.now layers w segs (c.requires.nodes.each agent c.of.result.now c.of.ensures) c.as_slice-layers.ensures c.whole.ensures.base c.whole.ensures.lo c.whole.ensures.hi gives in
    on_ok_then c.push_ways.result ((net : List NodeDecl) → IsTrue (is_agent_at (slice_get net agent)) → ((a : ℕ) (z : End) → segs_give c.deref.result.now a z ≡ true → StopsFrom net agent a z) → AreWays net c.args.ways.now.items → AreWays net c.push_ways.new.ways.items) (AreWays net c.push_ways.new.ways.items)
    (λ p. p net is (λ a z e. stops a z (ap (λ (l : List Seg). segs_give l a z) (sym c.deref.ensures.value) ∙ e)) c.requires.ways)
    c.push_ways.ensures
