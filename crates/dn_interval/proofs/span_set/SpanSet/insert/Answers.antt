-- The span, joined with those that it touches, stands in their place.
use Rattle.std.proofs.Common.{◌≡◌, ◌∙◌, ℕ, ◌||◌, Bool, List, ◌++◌, ◌∷◌, Result, Ok, Err, OnOk, OnErr, sym, subst, ap, take, drop, arith}
use Rattle.dn_interval.specs.declared.span.Span.{Span}
use Rattle.dn_interval.specs.Spans.{in_span, has, StandFrom}
use Rattle.dn_interval.proofs.Joining.{IsPut, put_is, part_stands}
use Rattle.dn_interval.proofs.Places.{first_by_last}
use Rattle.dn_interval.proofs.span_set.SpanSet.insert.Goals.{After-join-joined}
use Rattle.dn_interval.proofs.span_set.SpanSet.insert.Goals as goal

stands_after : {T E : Type 0} (r : Result T E) (xs ys zs : List Span) → OnOk r (zs ≡ ys) → OnErr r (zs ≡ xs) → StandFrom 0 xs → StandFrom 0 ys → StandFrom 0 zs
stands_after (Ok u) xs ys zs a b p q = subst (StandFrom 0) (sym a) q
stands_after (Err e) xs ys zs a b p q = subst (StandFrom 0) (sym b) p

has_after : {T E : Type 0} (r : Result T E) (w : ℕ → Bool) (ys zs : List Span) → OnOk r (zs ≡ ys) → ((x : ℕ) → has ys x ≡ w x) → OnOk r ((x : ℕ) → has zs x ≡ w x)
has_after (Ok u) w ys zs a f = λ x. ap (λ t. has t x) a ∙ f x
has_after (Err e) w ys zs a f = tt

pub join-joined-requires-clause-apart : goal.join-joined-requires-clause-apart
join-joined-requires-clause-apart c =
    part_stands c.as_slice-spans.result.now c.ended_before-first.result c.begun_by-last.result (subst (StandFrom 0) (sym c.as_slice-spans.ensures.value) c.self.invariant)
    (first_by_last c.as_slice-spans.result.now c.args.span c.ended_before-first.result c.begun_by-last.result c.saturating_sub.result (omega arith) c.ended_before-first.ensures.within c.ended_before-first.ensures.place.0 c.begun_by-last.ensures.place.1)

-- the spans with the one that was joined in the place of those that it touches
put_there : (c : After-join-joined) → IsPut c.self.inside.spans.items c.args.span (take c.ended_before-first.result c.self.inside.spans.items ++ c.join-joined.result ∷ drop c.begun_by-last.result c.self.inside.spans.items)
put_there c =
    let same = c.as_slice-spans.ensures.value in
    let first = c.ended_before-first.ensures in
    let last = c.begun_by-last.ensures in
    subst (λ xs. IsPut xs c.args.span (take c.ended_before-first.result xs ++ c.join-joined.result ∷ drop c.begun_by-last.result xs)) same
    (put_is c.as_slice-spans.result.now c.args.span c.join-joined.result c.ended_before-first.result c.begun_by-last.result c.saturating_sub.result (subst (StandFrom 0) (sym same) c.self.invariant) first.within last.within c.saturating_sub.ensures first.place.0 last.place.1 c.join-joined.ensures)

pub invariant_of-self : goal.invariant_of-self
invariant_of-self c =
    let old = c.self.inside.spans.items in
    stands_after c.put.result old (take c.ended_before-first.result old ++ c.join-joined.result ∷ drop c.begun_by-last.result old) c.put.new.spans.items c.put.ensures.ok c.put.ensures.err c.self.invariant (put_there (goal.at.invariant_of-self c).After-join-joined).stands

pub returns-clause-maximal : goal.returns-clause-maximal
returns-clause-maximal c = invariant_of-self c

pub returns-clause-ok : goal.returns-clause-ok
returns-clause-ok c =
    let old = c.self.inside.spans.items in
    let here = λ (x : ℕ). (put_there (goal.at.returns-clause-ok c).After-join-joined).have x ∙ ap (λ t. in_span c.args.span x || has t x) c.self.view_is in
    has_after c.put.result (λ x. in_span c.args.span x || has c.args.self.now x) (take c.ended_before-first.result old ++ c.join-joined.result ∷ drop c.begun_by-last.result old) c.put.new.spans.items c.put.ensures.ok here
