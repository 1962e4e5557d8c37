-- One span more.
use Rattle.std.proofs.Common.{◌+◌, ◌∙◌, ap, ◌∷◌, [], take}
use Rattle.std.proofs.lemmas.List.Folds.{list_any-append}
use Rattle.dn_interval.specs.declared.row.Seg.{Seg}
use Rattle.dn_interval.specs.declared.span.Span.{Span}
use Rattle.dn_interval.specs.Spans.{in_span, has}
use Rattle.dn_interval.specs.Strands.{seg_gives, segs_give}
use Rattle.dn_flat.specs.Firsts.{is_same}
use Rattle.dn_flat.proofs.Lists.{any_more, stay_more}
use Rattle.dn_flat.proofs.reach.still_segs.Goals as goal

pub loop-span-preserved : goal.loop-span-preserved
loop-span-preserved c = λ a y.
    let spans = c.args.spans.now in
    let i = c.loop-span.span-index in
    let s = c.span-item.result in
    ap (λ t. segs_give t a y) c.in_ok-push.ensures.items
    ∙ list_any-append (λ (x : Seg). seg_gives x a y) c.loop-span.segs.items (c.still.result ∷ [])
    ∙ stay_more (segs_give c.loop-span.segs.items a y) (seg_gives c.still.result a y) (has (take i spans) a) (in_span s a) (has (take (i + 1) spans) a) (is_same c.args.node a y) (c.loop-span.invariant a y) (c.still.ensures.gives a y) (any_more (λ (x : Span). in_span x a) spans i s c.loop-span-test.true c.span-item.is)
