-- The rows are normal for the stops of the addresses of the node.
use Rattle.std.proofs.Common.{◌≡◌, ◌∙◌, ℕ, ◌+◌, ◌-◌, ◌≤◌, ◌<◌, ◌&&◌, ◌||◌, true, List, [], slice_get, ap, subst, arith}
use Rattle.std.proofs.lemmas.Result.{IfOk-weaker}
use Rattle.dn_interval.specs.declared.row.End.{End}
use Rattle.dn_interval.specs.declared.row.Seg.{Seg}
use Rattle.dn_interval.specs.declared.span.TheConstants.{TOP}
use Rattle.dn_interval.specs.Rows.{AreNormal, SegmentsGive}
use Rattle.dn_interval.specs.Terms.{in_span}
use Rattle.dn_interval.specs.Strands.{segs_give}
use Rattle.dn_interval.proofs.Membership.{in_from}
use Rattle.dn_net.specs.declared.node.NodeDecl.{NodeDecl}
use Rattle.dn_flat.specs.Levels.{AreFlats, FlatsView, levels_give, stops_in}
use Rattle.dn_flat.specs.Views.{StopsFrom}
use Rattle.dn_flat.proofs.Lists.{means_along}
use Rattle.dn_flat.proofs.Shown.{stops_is}
use Rattle.dn_flat.proofs.Sums.{normal_of}
use Rattle.dn_flat.proofs.flats.Flats.stop_rows.Goals as goal

-- a segment over all addresses of a node gives their stops, and nothing else is given
given : (flats : FlatsView) (node : ℕ) (seg : Seg) (old new : List Seg) (a : ℕ) (z : End) → old ≡ [] → seg.node ≡ node → seg.base ≡ 0 → seg.span.lo ≡ 0 → seg.span.hi ≡ TOP → a ≤ TOP → segs_give new a z ≡ (segs_give old a z || (in_span seg.span a && levels_give (stops_in (slice_get flats.nodes seg.node)) (seg.base + (a - seg.span.lo)) z)) → segs_give new a z ≡ levels_give (stops_in (slice_get flats.nodes node)) a z
given flats node seg old new a z none is base lo hi low h =
    let inside : in_span seg.span a ≡ true = in_from seg.span a (omega (arith, lo)) (omega (arith, hi, low)) in
    let at : seg.base + (a - seg.span.lo) ≡ a = omega (arith, base, lo) in
    h
    ∙ ap (λ (l : List Seg). segs_give l a z || (in_span seg.span a && levels_give (stops_in (slice_get flats.nodes seg.node)) (seg.base + (a - seg.span.lo)) z)) none
    ∙ ap (λ b. b && levels_give (stops_in (slice_get flats.nodes seg.node)) (seg.base + (a - seg.span.lo)) z) inside
    ∙ ap (λ n. levels_give (stops_in (slice_get flats.nodes n)) (seg.base + (a - seg.span.lo)) z) is
    ∙ ap (λ x. levels_give (stops_in (slice_get flats.nodes node)) x z) at

pub returns : goal.returns
returns c =
    let flats : FlatsView = c.args.self.now in
    let node = c.args.node in
    let segs : List Seg = c.push_stops.new.segs.items in
    IfOk-weaker c.normal.result (λ rows. AreNormal (SegmentsGive c.deref.result.now) rows) (λ rows. (net : List NodeDecl) → AreFlats net flats → AreNormal (StopsFrom net node) rows)
    (λ rows n net are. normal_of (StopsFrom net node) segs rows
    (λ a z low. means_along (segs_give segs a z) _
    (given flats node c.whole.result c.new-segs.result.items segs a z c.new-segs.ensures.items c.whole.ensures.node c.whole.ensures.base c.whole.ensures.lo c.whole.ensures.hi low (c.in_ok-push_stops.ensures a z))
    (stops_is net flats are node a z (subst (λ n. node < n) are.every c.requires) low))
    (subst (λ s. AreNormal (SegmentsGive s) rows) c.deref.ensures.value n))
    c.normal.ensures.normal
