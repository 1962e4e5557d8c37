-- The segment of one walk more.
use Rattle.std.proofs.Common.{◌∙◌, ◌++◌, ◌∷◌, [], ◌||◌, false, ap, sym, map, take}
use Rattle.std.proofs.lemmas.List.{map-append, take_more}
use Rattle.std.proofs.lemmas.List.Folds.{list_any-append}
use Rattle.dn_interval.specs.declared.row.Seg.{Seg}
use Rattle.dn_interval.specs.Strands.{seg_gives, segs_give}
use Rattle.dn_walk.specs.Rows.{BareWalk, row_view}
use Rattle.dn_shape.specs.Past.{bare_gives, bare_give}
use Rattle.dn_shape.proofs.Walked.{seg_told}
use Rattle.dn_shape.proofs.past.segs_of.Goals as goal

pub loop-row-preserved : goal.loop-row-preserved
loop-row-preserved c = λ a y.
    let i = c.loop-row.row-index in
    let walks = c.args.walks.now in
    let r = c.row-item.result in
    ap (λ l. segs_give l a y) c.in_ok-push.ensures.items
    ∙ list_any-append (λ (s : Seg). seg_gives s a y) c.loop-row.segs.items (c.seg.result ∷ [])
    ∙ ap (λ t. t || (seg_gives c.seg.result a y || false)) (c.loop-row.invariant a y)
    ∙ ap (λ t. bare_give (map row_view (take i walks)) a y || (t || false)) (seg_told c.seg.result r a y c.seg.ensures.span c.seg.ensures.node c.seg.ensures.base)
    ∙ sym (list_any-append (λ (t : BareWalk). bare_gives t a y) (map row_view (take i walks)) (row_view r ∷ []))
    ∙ sym (ap (λ l. bare_give l a y) (ap (map row_view) (take_more walks i r c.loop-row-test.true ∙ ap (λ x. take i walks ++ x ∷ []) (sym c.row-item.is)) ∙ map-append row_view (take i walks) (r ∷ [])))
