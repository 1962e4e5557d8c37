use Rattle.std.proofs.Common.{◌∙◌}
use Rattle.std.proofs.lemmas.Result.{IfOk-weaker}
use Rattle.dn_script.proofs.Viewed.{lines_of_rows}
use Rattle.dn_script.proofs.lines.RowLine.lines.Goals as goal

pub returns : goal.returns
returns c = IfOk-weaker c.lines_of.result _ _ (λ s is. is ∙ lines_of_rows c.args.net.now c.args.items.now) c.lines_of.ensures
