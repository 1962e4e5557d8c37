use Rattle.std.proofs.Common.{◌∙◌, ap, sym, Err}
use Rattle.dn_audit.specs.declared.fault.AuditFault.TheVariants.{Image}
use Rattle.netconf_c.proofs.Fault.{audit_broken}
use Rattle.netconf_c.proofs.images.audit.Goals as goal

pub returns-in-Err-Image-clause-broken : goal.returns-in-Err-Image-clause-broken
returns-in-Err-Image-clause-broken c l =
    audit_broken c.args.session.now c.args.image.now c.audit.result _ _ _ (c.in-Err-Image.is ∙ ap (λ f. Err f) (c.in-Err-Image.field-0-is ∙ ap (λ f. Image f) (sym c.in-Err-Image.fault-is))) c.audit.ensures.told c.broken.ensures.told c.broken.ensures.memory l
