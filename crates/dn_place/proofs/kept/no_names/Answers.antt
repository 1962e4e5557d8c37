use Rattle.std.proofs.Common.{◌≡◌, List, [], rules, subst}
use Rattle.std.proofs.lemmas.Result.{IfOk-weaker}
use Rattle.dn_interval.specs.declared.row.Row.{Row}
use Rattle.dn_interval.specs.declared.row.Seg.{Seg}
use Rattle.dn_interval.specs.Rows.{AreNormal, SegmentsGive}
use Rattle.dn_net.specs.declared.node.NodeDecl.{NodeDecl}
use Rattle.dn_kind.specs.Tables.{Held}
use Rattle.dn_placement.specs.declared.request.Request.{Request}
use Rattle.dn_place.specs.KeptNames.{AreKeptNames}
use Rattle.dn_place.proofs.Named.{none_named}
use Rattle.dn_place.proofs.kept.no_names.Goals as goal

pub returns : goal.returns
returns c =
    let bare : c.as_slice.result.now ≡ [] = search rules in
    IfOk-weaker c.normal.result (λ rows. AreNormal (SegmentsGive c.as_slice.result.now) rows) (λ rows. (net : List NodeDecl) (h : Held) (rq : Request) → AreKeptNames net h rq rows)
    (λ rows n net h rq. none_named net h rq rows (subst (λ (l : List Seg). AreNormal (SegmentsGive l) rows) bare n))
    c.normal.ensures.normal
