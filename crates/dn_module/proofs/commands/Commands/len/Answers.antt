use Rattle.std.proofs.Common.{◌∙◌, sym}
use Rattle.dn_parse.specs.Script.{script_view}
use Rattle.dn_module.proofs.Made.{made_count}
use Rattle.dn_module.proofs.commands.Commands.len.Goals as goal

pub returns : goal.returns
returns c = rw (← c.self.view_is) (c.len.ensures ∙ sym (made_count _ (script_view c.self.inside.script) c.self.invariant))
