use Rattle.std.proofs.Common.{◌||◌, ◌∙◌, List, ap, subst, IsTrue}
use Rattle.std.proofs.lemmas.Result.{IfOk-weaker}
use Rattle.dn_interval.specs.declared.row.Seg.{Seg}
use Rattle.dn_interval.specs.Rows.{AreNormal, SegmentsGive}
use Rattle.dn_interval.specs.Strands.{segs_give}
use Rattle.dn_view.specs.Near.{levels_near}
use Rattle.dn_place.proofs.Toward.{near_found}
use Rattle.dn_place.proofs.rows.near_rows.Goals as goal

pub returns : goal.returns
returns c =
    IfOk-weaker c.normal.result (λ rows. AreNormal (SegmentsGive c.deref.result.now) rows) (λ rows. AreNormal (λ a z. IsTrue (levels_near c.args.target c.args.size c.args.levels.now a z)) rows)
    (λ rows n. near_found c.args.target c.args.size c.args.levels.now c.push_near.new.segs.items rows (λ a z. c.in_ok-push_near.ensures a z ∙ ap (λ (s : List Seg). segs_give s a z || levels_near c.args.target c.args.size c.args.levels.now a z) c.new-segs.ensures.items)
    (subst (λ (s : List Seg). AreNormal (SegmentsGive s) rows) c.deref.ensures.value n))
    c.normal.ensures.normal
