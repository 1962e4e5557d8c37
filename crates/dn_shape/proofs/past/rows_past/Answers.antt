-- The walks are those past the node, and the rows of the segments that they give are the rows past it.
use Rattle.std.proofs.Common.{◌≡◌, ◌∙◌, ◌+◌, ◌-◌, ◌≤◌, ℕ, List, ap, sym, subst, map}
use Rattle.std.specs.List.{All}
use Rattle.std.proofs.lemmas.Result.{IfOk-weaker}
use Rattle.dn_interval.specs.declared.row.End.{End}
use Rattle.dn_interval.specs.declared.span.TheConstants.{TOP}
use Rattle.dn_interval.specs.Rows.{AreNormal, SegmentsGive}
use Rattle.dn_interval.specs.Strands.{segs_give}
use Rattle.dn_walk.specs.declared.walks.WalkRow.{WalkRow}
use Rattle.dn_walk.specs.Legs.{leg_view}
use Rattle.dn_walk.specs.Rows.{bare_walk, row_view}
use Rattle.dn_shape.specs.Past.{bare_give}
use Rattle.dn_shape.proofs.Walked.{walks_past}
use Rattle.dn_shape.proofs.Walked.{past_bare, row_of_walk, rows_are_past, rows_far}
use Rattle.dn_shape.proofs.past.rows_past.Goals as goal

pub segs_of-requires : goal.segs_of-requires
segs_of-requires c =
    let net = c.args.checked.net.now in
    let made = past_bare net c.args.past c.args.checked.node (map leg_view c.args.onward.now) c.in_ok-first.first.items c.deref.result.now c.in_ok-walks.walks.items c.requires.onward c.in_ok-first.ensures.walks c.deref.ensures.value c.in_ok-walks.ensures in
    let far = rows_far net (walks_past net c.args.past c.args.checked.node) c.in_ok-walks.walks.items (λ w m. row_of_walk net c.args.checked.rules c.args.past c.args.checked.node c.args.checked.there w m) made in
    subst (All (λ (r : WalkRow). r.base + (r.span.hi - r.span.lo) ≤ TOP)) (sym c.deref-2.ensures.value) far

pub returns : goal.returns
returns c =
    let net = c.args.checked.net.now in
    let made = past_bare net c.args.past c.args.checked.node (map leg_view c.args.onward.now) c.in_ok-first.first.items c.deref.result.now c.in_ok-walks.walks.items c.requires.onward c.in_ok-first.ensures.walks c.deref.ensures.value c.in_ok-walks.ensures in
    let given : (a : ℕ) (y : End) → segs_give c.in_ok-segs.segs.items a y ≡ bare_give (map bare_walk (walks_past net c.args.past c.args.checked.node)) a y =
    λ a y. c.in_ok-segs.ensures a y ∙ ap (λ (l : List WalkRow). bare_give (map row_view l) a y) c.deref-2.ensures.value ∙ ap (λ l. bare_give l a y) made in
    IfOk-weaker c.normal.result _ _ (λ rows n. rows_are_past net c.args.checked.rules c.args.past c.args.checked.node c.args.checked.there c.in_ok-segs.segs.items rows given (subst (λ l. AreNormal (SegmentsGive l) rows) c.deref-3.ensures.value n)) c.normal.ensures.normal
