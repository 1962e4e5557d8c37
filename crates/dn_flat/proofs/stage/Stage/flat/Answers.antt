-- What the levels show is what the node resolves to.
use Rattle.std.proofs.Common.{rules, ◌≡◌, ◌∙◌, List, ap, subst, sym}
use Rattle.dn_interval.specs.declared.row.Row.{Row}
use Rattle.dn_interval.specs.Rows.{AreNormal, SegmentsGive}
use Rattle.dn_interval.specs.Strands.{segs_give}
use Rattle.dn_flat.specs.declared.reach.Reach.{Reach}
use Rattle.dn_flat.specs.Levels.{AreLevels, levels_show}
use Rattle.dn_flat.specs.Stages.{AreReaches, StageRows}
use Rattle.dn_flat.specs.Views.{ResolvesFrom, StopsFrom}
use Rattle.dn_flat.proofs.Bounds.{flat_is}
use Rattle.dn_flat.proofs.Lists.{means_along}
use Rattle.dn_flat.proofs.Shown.{shown_is}
use Rattle.dn_flat.proofs.Sums.{normal_of}
use Rattle.dn_flat.proofs.stage.Stage.flat.Goals as goal

pub returns : goal.returns
returns c =
    let net = c.args.net.now in
    let node = c.args.node in
    let nodes : List Reach = c.as_slice-nodes.result.now in
    let levels : List (List Row) = c.as_slice.result.now in
    let accepts : List Row = c.in_ok-accepts.accepts in
    let stops : List Row = c.in_ok-stops.stops in
    let found = c.in_ok-levels.field-0.stops.items in
    let segs = c.in_ok-segs.segs.items in
    let steps : nodes ≡ c.args.self.now.nodes = c.as_slice-nodes.ensures.value ∙ ap (λ (v : StageRows). v.nodes) c.self.view_is in
    let are : AreReaches net 1 nodes = subst (AreReaches net 1) (sym steps) (subst (λ k. AreReaches net k c.args.self.now.nodes) c.requires.first c.requires.stage) in
    let same : levels ≡ c.in_ok-levels.field-0.levels = search rules in
    let by : AreLevels net node levels = subst (AreLevels net node) (sym same) c.in_ok-levels.ensures.levels in
    flat_is net node (record { accepts = accepts; stops = stops })
    (normal_of (ResolvesFrom net node) segs accepts
    (λ a y low. means_along (segs_give segs a y) (levels_show nodes levels a y) (c.in_ok-segs.ensures a y) (shown_is net nodes are node levels by a y low))
    (subst (λ s. AreNormal (SegmentsGive s) accepts) c.deref-2.ensures.value c.in_ok-accepts.ensures.normal))
    (normal_of (StopsFrom net node) found stops c.in_ok-levels.ensures.stops
    (subst (λ s. AreNormal (SegmentsGive s) stops) c.deref.ensures.value c.in_ok-stops.ensures.normal))
