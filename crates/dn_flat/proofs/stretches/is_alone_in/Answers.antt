-- The names of the level at the addresses of the segment, each followed by what its node accepts.
use Rattle.std.proofs.Common.{◌≡◌, ◌∙◌, ◌+◌, ◌-◌, ◌&&◌, ◌||◌, ◌↔◌, ℕ, Bool, true, ap}
use Rattle.std.proofs.lemmas.Result.{IfOk-weaker}
use Rattle.dn_base.proofs.Booleans.{means_then}
use Rattle.dn_interval.specs.declared.row.End.{End}
use Rattle.dn_interval.specs.Spans.{in_span}
use Rattle.dn_interval.specs.Strands.{segs_give, rows_give}
use Rattle.dn_interval.specs.Onward.{rows_go}
use Rattle.dn_flat.specs.declared.found.Continuation.TheVariants.{Accepts}
use Rattle.dn_flat.specs.Onward.{leads_by, segs_lead}
use Rattle.dn_flat.specs.Stretches.{GivesAll}
use Rattle.dn_flat.proofs.Going.{onward_same}
use Rattle.dn_flat.proofs.Stretched.{gives_same, still_gives}
use Rattle.dn_flat.proofs.stretches.is_alone_in.Goals as goal

pub returns : goal.returns
returns c =
    let seg = c.args.seg in
    let s = c.still.result in
    let rows = c.args.level.now in
    let mid = c.follow.new.segs.items in
    let given = c.as_slice.result.now in
    let next : ℕ → ℕ → End → Bool = leads_by Accepts c.args.nodes.now in
    let found : (a : ℕ) (y : End) → segs_give mid a y ≡ (in_span s.span a && rows_give rows (s.base + (a - s.span.lo)) y) = λ a y. c.in_ok-follow.ensures.ok a y ∙ ap (λ t. segs_give t a y || (in_span s.span a && rows_give rows (s.base + (a - s.span.lo)) y)) c.clear.ensures.items in
    IfOk-weaker c.give_parts.result (λ b. (b ≡ true) ↔ GivesAll (λ a z. segs_lead next given a z) seg) (λ b. (b ≡ true) ↔ GivesAll (λ a z. in_span seg.span a && rows_go next rows a z) seg)
    (λ b f. means_then f (gives_same (λ a z. segs_lead next given a z) (λ a z. in_span seg.span a && rows_go next rows a z) seg
    (λ a z. ap (λ g. segs_lead next g a z) c.as_slice.ensures.value
    ∙ (onward_same next a z mid rows (in_span s.span a) (s.base + (a - s.span.lo)) (found a)
    ∙ still_gives (λ b y. rows_go next rows b y) s seg.span a z c.still.ensures.span c.still.ensures.base))))
    c.give_parts.ensures
