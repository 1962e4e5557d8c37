-- The names of the row that follow, each by what its node accepts.
use Rattle.std.proofs.Common.{◌≡◌, ◌∙◌, ◌+◌, ◌-◌, ◌&&◌, ◌||◌, ℕ, Bool, ap}
use Rattle.dn_base.proofs.Told.{on_ok_then}
use Rattle.dn_interval.specs.declared.row.End.{End}
use Rattle.dn_interval.specs.Spans.{in_span}
use Rattle.dn_interval.specs.Strands.{segs_give, rows_give}
use Rattle.dn_interval.specs.Onward.{rows_go}
use Rattle.dn_flat.specs.declared.found.Continuation.TheVariants.{Accepts}
use Rattle.dn_flat.specs.Onward.{leads_by, segs_lead}
use Rattle.dn_flat.proofs.Going.{onward_same}
use Rattle.dn_flat.proofs.levels.push_onward.Goals as goal

pub returns : goal.returns
returns c =
    let s = c.args.seg in
    let rows = c.args.level.now in
    let old = c.args.segs.now.items in
    let new = c.push_segs.new.segs.items in
    let mid = c.follow.new.segs.items in
    let next : ℕ → ℕ → End → Bool = leads_by Accepts c.args.nodes.now in
    let found : (a : ℕ) (y : End) → segs_give mid a y ≡ (in_span s.span a && rows_give rows (s.base + (a - s.span.lo)) y) = λ a y. c.in_ok-follow.ensures.ok a y ∙ ap (λ t. segs_give t a y || (in_span s.span a && rows_give rows (s.base + (a - s.span.lo)) y)) c.clear.ensures.items in
    on_ok_then c.push_segs.result ((a : ℕ) (z : End) → segs_give new a z ≡ (segs_give old a z || segs_lead next c.deref.result.now a z)) ((a : ℕ) (z : End) → segs_give new a z ≡ (segs_give old a z || (in_span s.span a && rows_go next rows (s.base + (a - s.span.lo)) z)))
    (λ f a z. f a z ∙ (ap (λ g. segs_give old a z || segs_lead next g a z) c.deref.ensures.value ∙ ap (λ t. segs_give old a z || t) (onward_same next a z mid rows (in_span s.span a) (s.base + (a - s.span.lo)) (found a))))
    c.push_segs.ensures
