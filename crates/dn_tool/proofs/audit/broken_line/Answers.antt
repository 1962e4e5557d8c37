use Rattle.std.proofs.Common.{◌≡◌, ◌∙◌, ◌++◌, ap, codes, ℕ, List}
use Rattle.std.specs.String.{string_bytes}
use Rattle.std.proofs.lemmas.Result.{IfOk-weaker}
use Rattle.dn_image.specs.Reading.{image_fault_view}
use Rattle.dn_audit.specs.Text.{broken_text}
use Rattle.dn_tool.specs.Audited.{broken_line}
use Rattle.dn_script.proofs.Endings.{if_some}
use Rattle.dn_tool.proofs.audit.broken_line.Goals as goal

pub returns : goal.returns
returns c = IfOk-weaker c.format.result _ _ (λ line is.
    if_some (image_fault_view c.args.fault) (λ broken. string_bytes c.in_ok-broken.broken ≡ broken_text broken) (λ broken. string_bytes line ≡ broken_line broken)
    (λ broken e. is ∙ ap (λ (t : List ℕ). codes "refused: " ++ (t ++ codes "\n")) e) c.in_ok-broken.ensures) c.format.ensures.ok
