use Rattle.std.proofs.Common.{◌≡◌, ◌∙◌, ap, sym, position, Some, []}
use Rattle.std.proofs.lemmas.List.Quantifiers.{position-Some}
use Rattle.std.specs.Str.{bytes_eq}
use Rattle.dn_scope.proofs.text_table.TextTable.number.Goals as goal

pub returns-in-Some-clause-number : goal.returns-in-Some-clause-number
returns-in-Some-clause-number c = c.in-Some.ensures.value ∙ c.self.invariant.found c.args.text.now ∙ ap (position (bytes_eq c.args.text.now)) c.self.view_is

pub returns-in-Some-clause-within : goal.returns-in-Some-clause-within
returns-in-Some-clause-within c =
    let at : Some c.in-Some.number.now ≡ position (bytes_eq c.args.text.now) c.args.self.now = c.in-Some.ensures.value ∙ c.self.invariant.found c.args.text.now ∙ ap (position (bytes_eq c.args.text.now)) c.self.view_is in
    (position-Some (bytes_eq c.args.text.now) c.args.self.now c.in-Some.number.now [] (sym at)).0

pub returns-in-None-clause-number : goal.returns-in-None-clause-number
returns-in-None-clause-number c = c.in-None.ensures.value ∙ c.self.invariant.found c.args.text.now ∙ ap (position (bytes_eq c.args.text.now)) c.self.view_is
