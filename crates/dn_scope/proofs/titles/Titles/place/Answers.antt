use Rattle.std.proofs.Common.{◌∙◌, ap, position}
use Rattle.std.specs.Str.{bytes_eq}
use Rattle.dn_scope.proofs.titles.Titles.place.Goals as goal

pub returns : goal.returns
returns c =
    let w = c.args.word.now in
    c.number.ensures.number ∙ ap (position (bytes_eq w)) (c.as_ref.ensures ∙ c.self.view_is)
