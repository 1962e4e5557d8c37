-- The text of the report, or the line of the first field that is wrong.
use Rattle.std.proofs.Common.{rules, ◌≡◌, sym, subst, ℕ, List, Option, Some, None, IfSome, Result, Err}
use Rattle.dn_net.specs.declared.node.NodeDecl.{NodeDecl}
use Rattle.dn_kind.specs.Kind.{Meaning}
use Rattle.dn_kind.specs.Kinded.{kinds_of}
use Rattle.dn_image.specs.Reading.{BrokenImage, broken_image, image_fault_view}
use Rattle.dn_audit.specs.declared.fault.AuditFault.{AuditFault}
use Rattle.dn_audit.specs.declared.fault.AuditFault.TheVariants.{Image}
use Rattle.dn_audit.specs.Audit.{IsAudited, IsBroken}
use Rattle.dn_audit.specs.Told.{ToldAudit, audit_fault_view, audit_reading}
use Rattle.dn_tool.specs.Answer.{IsOutcome, IsSaid}
use Rattle.dn_tool.specs.Audited.{audit_answer, broken_line}
use Rattle.dn_script.specs.Halt.{ending_status}
use Rattle.dn_tool.proofs.audit.audit_image.Goals as goal

-- bytes that are no image are answered by the line of what is wrong with them
broken_said : (net : List NodeDecl) (reading : Result ToldAudit BrokenImage) (wrong told : Option BrokenImage) (status : ℕ) (before after : Option (List ℕ)) → IsBroken wrong told → IfSome told (λ b. reading ≡ Err b) → IfSome told (λ b. IsSaid 4 (broken_line b) status before after) → IsOutcome (audit_answer net reading) status before after
broken_said net reading None told status before after broken is said = absurd broken
broken_said net reading (Some b) None status before after broken is said = cc
broken_said net reading (Some b) (Some d) status before after broken is said = subst (λ (r : Result ToldAudit BrokenImage). IsOutcome (audit_answer net r) status before after) (sym is) said

pub returns-in-Ok-clause-said : goal.returns-in-Ok-clause-said
returns-in-Ok-clause-said g c = subst (λ (r : Result ToldAudit BrokenImage). IsOutcome (audit_answer c.args.machine.on.net.now r) (ending_status c.say_report.result) (g.K.Sink.written c.args.sink.now) (g.K.Sink.written c.say_report.new.sink)) (sym c.in-Ok.ensures.told) c.say_report.ensures.said

pub returns-in-Err-Image-clause-said : goal.returns-in-Err-Image-clause-said
returns-in-Err-Image-clause-said g c =
    let kinds : List Meaning = kinds_of (λ k. (goal.UnitKind-dyn g k).meaning k.1) c.args.machine.on.kinds.now in
    let net = c.args.machine.on.net.now in
    let bytes = c.args.image.now in
    let is : c.in-Err-Image.field-0 ≡ Image c.in-Err-Image.fault = search rules in
    let audited : IsAudited net kinds bytes (Err (Image c.in-Err-Image.fault)) = subst (λ (f : AuditFault). IsAudited net kinds bytes (Err f)) is c.in-Err-Image.ensures.audited in
    let told : IfSome (image_fault_view c.in-Err-Image.fault) (λ b. audit_reading net kinds bytes ≡ Err b) = subst (λ (f : AuditFault). IfSome (audit_fault_view f) (λ b. audit_reading net kinds bytes ≡ Err b)) is c.in-Err-Image.ensures.told in
    broken_said net (audit_reading net kinds bytes) (broken_image net kinds bytes) (image_fault_view c.in-Err-Image.fault) _ _ _ audited told c.refuse_image.ensures.said
