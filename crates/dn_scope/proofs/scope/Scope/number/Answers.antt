use Rattle.std.proofs.Common.{◌∙◌, ap, sym, map, reverse, option_map}
use Rattle.dn_scope.specs.Replace.{numbers_by, value_for_word}
use Rattle.dn_scope.proofs.Scopes.{found_within, found_outside, numbered}
use Rattle.dn_scope.proofs.scope.Scope.number.Goals as goal

pub returns-in-Some : goal.returns-in-Some
returns-in-Some c =
    let inside = c.self.inside in
    let loops = ap (λ l. value_for_word c.args.word.now (reverse (map numbered l))) c.as_slice.ensures.value in
    rw (← c.self.view_is) (found_within c.args.word.now (reverse (map numbered inside.loops.items)) (numbers_by (option_map (λ w. w.words.0) inside.within)) c.in-Some.number (c.in-Some.ensures ∙ loops))

pub returns-in-None : goal.returns-in-None
returns-in-None c =
    let inside = c.self.inside in
    let loops = ap (λ l. value_for_word c.args.word.now (reverse (map numbered l))) c.as_slice.ensures.value in
    rw (← c.self.view_is) (c.parameter.ensures ∙ sym (found_outside c.args.word.now (reverse (map numbered inside.loops.items)) (numbers_by (option_map (λ w. w.words.0) inside.within)) (c.in-None.ensures ∙ loops)))
