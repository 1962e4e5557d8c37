use Rattle.std.proofs.Common.{◌≡◌, ◌∙◌, ◌||◌, None, false, sym, ap, rules, slice_get}
use Rattle.std.specs.List.{list_any}
use Rattle.std.specs.Option.{option_map_or}
use Rattle.dn_interval.specs.Spans.{has}
use Rattle.dn_vector.specs.Vectors.{has_vector, in_some_span}
use Rattle.dn_vector.proofs.Taken.{passed}
use Rattle.dn_vector.proofs.vectors.taken_vectors.Goals.{in-Some+in_ok-insert, in_default}
use Rattle.dn_vector.proofs.vectors.taken_vectors.Goals as goal

pub loop-at-preserved : goal.loop-at-preserved
loop-at-preserved c = λ a low.
    let given : in_some_span c.vectors_of.result a ≡ option_map_or (has_vector c.args.node a) (slice_get c.args.grants.now.live c.loop-at.at) false = c.vectors_of.ensures a low in
    let more : has c.match-vectors_of.taken a ≡ (option_map_or (has_vector c.args.node a) (slice_get c.args.grants.now.live c.loop-at.at) false || has c.loop-at.taken a) =
    (elim c.match-vectors_of.branch [
      | in-Some+in_ok-insert w ↦ ap (λ s. has s a) w.taken-is ∙ w.in_ok-insert.ensures.ok a ∙ ap (λ b. b || has c.loop-at.taken a) (sym (ap (λ o. in_some_span o a) w.in-Some.is) ∙ given)
      | in_default w ↦ (let none : c.vectors_of.result ≡ None = search rules in ap (λ s. has s a) w.taken-is ∙ ap (λ b. b || has c.loop-at.taken a) (sym (ap (λ o. in_some_span o a) none) ∙ given))
    ]) in
    passed (has_vector c.args.node a) c.args.grants.now.live c.loop-at.at (list_any (has_vector c.args.node a) c.args.grants.now.live) (has c.loop-at.taken a) (has c.match-vectors_of.taken a) more (c.loop-at.invariant a low)
