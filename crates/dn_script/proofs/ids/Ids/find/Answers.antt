use Rattle.std.proofs.Common.{◌∙◌, ap, position}
use Rattle.std.specs.Str.{bytes_eq}
use Rattle.dn_script.proofs.ids.Ids.find.Goals as goal

pub returns-in-Some : goal.returns-in-Some
returns-in-Some c = c.in-Some.ensures.number ∙ ap (position (bytes_eq c.args.id.now)) c.self.view_is

pub returns-in-None : goal.returns-in-None
returns-in-None c = c.in-None.ensures.number ∙ ap (position (bytes_eq c.args.id.now)) c.self.view_is
