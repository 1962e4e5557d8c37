use Rattle.std.proofs.Common.{◌∙◌, sym, ap, map, slice_get}
use Rattle.dn_scope.specs.Replace.{value_for_word}
use Rattle.dn_scope.specs.Words.{given_view, number_part, part_in}
use Rattle.dn_scope.proofs.Places.{no_number, number_hidden, number_shown}
use Rattle.dn_scope.proofs.words.Bindings.number.Goals as goal

pub returns-in_default : goal.returns-in_default
returns-in_default c = sym (no_number _ _ _ c.self.inside.from (sym c.in_default.ensures)) ∙ ap (λ v. value_for_word c.args.word.now v.0) c.self.view_is

pub returns-then-place-self : goal.returns-then-place-self
returns-then-place-self c =
    sym (number_hidden _ _ _ c.self.inside.from c.in-Some.place c.self.invariant (sym c.in-Some.ensures) c.if-place-self.true)
    ∙ ap (λ v. value_for_word c.args.word.now v.0) c.self.view_is

pub returns : goal.returns
returns c =
    c.number_at.ensures
    ∙ ap (λ vs. part_in number_part (slice_get (map given_view vs) c.in-Some.place)) c.as_slice.ensures
    ∙ sym (number_shown _ _ _ c.self.inside.from c.in-Some.place c.self.invariant (sym c.in-Some.ensures) c.if-place-self.false)
    ∙ ap (λ v. value_for_word c.args.word.now v.0) c.self.view_is
