-- One walk more, and then all of them.
use Rattle.std.proofs.Common.{◌∙◌, ◌++◌, ap, sym, map}
use Rattle.std.specs.List.{flat_map}
use Rattle.std.proofs.lemmas.List.{take_all}
use Rattle.dn_walk.specs.Legs.{leg_view}
use Rattle.dn_walk.specs.Rows.{row_view}
use Rattle.dn_shape.specs.Past.{bare_onward}
use Rattle.dn_shape.proofs.Walked.{onward_more}
use Rattle.dn_shape.proofs.past.walks_onward.Goals as goal

pub loop-row-preserved : goal.loop-row-preserved
loop-row-preserved c =
    let f = bare_onward (map leg_view c.args.legs.now) c.args.past in
    c.in_ok-push_onward.ensures
    ∙ ap (λ l. l ++ f (row_view c.row-item.result)) c.loop-row.invariant
    ∙ sym (onward_more f c.args.first.now c.loop-row.row-index c.row-item.result c.loop-row-test.true c.row-item.is)

pub returns : goal.returns
returns c =
    let f = bare_onward (map leg_view c.args.legs.now) c.args.past in
    c.loop-row.invariant ∙ ap (λ l. flat_map f (map row_view l)) (take_all c.loop-row.row-index c.args.first.now c.loop-row-test.false)
