-- The rows are normal for what the addresses of the node resolve to.
use Rattle.std.proofs.Common.{◌<◌, List, subst}
use Rattle.std.proofs.lemmas.Result.{IfOk-weaker}
use Rattle.dn_interval.specs.Rows.{AreNormal, SegmentsGive}
use Rattle.dn_interval.specs.Strands.{segs_give}
use Rattle.dn_net.specs.declared.node.NodeDecl.{NodeDecl}
use Rattle.dn_flat.specs.Levels.{AreFlats, FlatsView}
use Rattle.dn_flat.specs.Views.{ResolvesFrom}
use Rattle.dn_flat.proofs.Lists.{means_along}
use Rattle.dn_flat.proofs.Shown.{shows_is}
use Rattle.dn_flat.proofs.Sums.{normal_of}
use Rattle.dn_flat.proofs.flats.Flats.accepted_rows.Goals as goal

pub returns : goal.returns
returns c =
    let flats : FlatsView = c.args.self.now in
    let node = c.args.node in
    let segs = c.in_ok-segs.segs.items in
    IfOk-weaker c.normal.result (λ rows. AreNormal (SegmentsGive c.deref.result.now) rows) (λ rows. (net : List NodeDecl) → AreFlats net flats → AreNormal (ResolvesFrom net node) rows)
    (λ rows n net are. normal_of (ResolvesFrom net node) segs rows
    (λ a z low. means_along (segs_give segs a z) _ (c.in_ok-segs.ensures a z) (shows_is net flats are node a z (subst (λ n. node < n) are.every c.requires) low))
    (subst (λ s. AreNormal (SegmentsGive s) rows) c.deref.ensures.value n))
    c.normal.ensures.normal
