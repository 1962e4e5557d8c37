-- The address is in the first span that does not end before it, or in none.
use Rattle.std.proofs.Common.{◌≡◌, ◌∙◌, sym, ap, subst}
use Rattle.std.specs.List.{slice_get}
use Rattle.dn_base.proofs.Lists.{slice_get-at}
use Rattle.dn_interval.proofs.Pieces.{gone}
use Rattle.dn_interval.proofs.Places.{found, begins_by}
use Rattle.dn_interval.specs.Spans.{has, StandFrom}
use Rattle.dn_interval.proofs.span_set.SpanSet.contains.Goals.{After-ended_before}
use Rattle.dn_interval.proofs.span_set.SpanSet.contains.Goals as goal

-- whether the span at the place begins at the address or before it
has_it : (c : After-ended_before) → begins_by c.args.a (slice_get c.spans-spans.result.now c.ended_before.result) ≡ has c.args.self.now c.args.a
has_it c =
    let stands = subst (StandFrom 0) (sym c.spans-spans.ensures.value) c.spans-spans.ensures.maximal in
    found 0 _ _ _ stands c.ended_before.ensures.within c.ended_before.ensures.place.0 c.ended_before.ensures.place.1 ∙ ap (λ t. has t c.args.a) c.spans-spans.ensures.value

pub returns-in-Some : goal.returns-in-Some
returns-in-Some c =
    let h = c.in-Some.ensures.lookup in
    ap (begins_by c.args.a) (slice_get-at c.spans-spans.result.now c.ended_before.result c.in-Some.span.now h.3.0 h.1) ∙ has_it (goal.at.returns-in-Some c).After-ended_before

pub returns-in-None : goal.returns-in-None
returns-in-None c =
    ap (begins_by c.args.a) (gone c.spans-spans.result.now c.ended_before.result c.in-None.ensures.lookup.3) ∙ has_it (goal.at.returns-in-None c).After-ended_before
