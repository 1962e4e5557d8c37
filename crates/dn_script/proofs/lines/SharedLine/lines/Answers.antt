use Rattle.std.proofs.Common.{◌∙◌}
use Rattle.std.proofs.lemmas.List.Folds.{flat_map-map}
use Rattle.std.proofs.lemmas.Result.{IfOk-weaker}
use Rattle.dn_audit.specs.Text.{shared_text}
use Rattle.dn_audit.specs.Told.{shared_told}
use Rattle.dn_script.proofs.lines.SharedLine.lines.Goals as goal

pub returns : goal.returns
returns c = IfOk-weaker c.shared_lines.result _ _ (λ s is. is ∙ flat_map-map (shared_text c.args.net.now) shared_told c.args.items.now) c.shared_lines.ensures
