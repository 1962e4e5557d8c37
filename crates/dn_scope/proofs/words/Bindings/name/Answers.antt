use Rattle.std.proofs.Common.{◌∙◌, sym, ap, map, slice_get}
use Rattle.dn_scope.specs.Replace.{value_for_word}
use Rattle.dn_scope.specs.Words.{given_view, name_part, part_in}
use Rattle.dn_scope.proofs.Places.{no_name, name_there}
use Rattle.dn_scope.proofs.words.Bindings.name.Goals as goal

pub returns-in_default : goal.returns-in_default
returns-in_default c = sym (no_name c.args.word.now c.self.inside.titles (map given_view c.self.inside.values) (sym c.in_default.ensures)) ∙ ap (λ v. value_for_word c.args.word.now v.1) c.self.view_is

pub returns : goal.returns
returns c =
    c.name_at.ensures
    ∙ ap (λ vs. part_in name_part (slice_get (map given_view vs) c.in-Some.place)) c.as_slice.ensures
    ∙ sym (name_there _ _ _ c.in-Some.place c.self.invariant (sym c.in-Some.ensures))
    ∙ ap (λ v. value_for_word c.args.word.now v.1) c.self.view_is
