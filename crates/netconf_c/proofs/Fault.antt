-- What is told of bytes that are no image.
use Rattle.std.proofs.Common.{◌≡◌, ◌≤◌, subst, refl, arith, ℕ, List, Option, Some, None, Result, Ok, Err}
use Rattle.std.specs.Option.{IfSome}
use Rattle.dn_base.specs.Answers.{Answers}
use Rattle.dn_net.specs.declared.names.Names.{Names}
use Rattle.dn_net.specs.declared.node.Name.{Name}
use Rattle.dn_kind.specs.declared.rights.Access.{Access}
use Rattle.dn_image.specs.declared.fault.ImageFault.{ImageFault}
use Rattle.dn_image.specs.Reading.{BrokenImage, image_fault_view}
use Rattle.dn_lookup.specs.declared.lookup.LookupFault.{LookupFault}
use Rattle.dn_lookup.specs.declared.lookup.LookupFault.TheVariants.{Image}
use Rattle.dn_lookup.specs.Lookup.{NoLookup, lookup_fault_view, lookup_of, no_image, no_lookup_by}
use Rattle.dn_audit.specs.declared.fault.AuditFault.{AuditFault}
use Rattle.dn_audit.specs.declared.fault.AuditFault.TheVariants.{Image as AuditedImage}
use Rattle.dn_audit.specs.declared.report.AuditReport.{AuditReport}
use Rattle.dn_audit.specs.Told.{audit_fault_view, audit_reading, report_told}
use Rattle.dn_session.specs.Open.{SessionState}
use Rattle.dn_session.specs.Shipped.{shipped_kinds}
use Rattle.netconf_c.specs.Images.{IsBrokenBy, IsNoImageBy, broken_place, broken_status}

-- what a lookup tells
pub lookup_broken : (s : SessionState) (image : List ℕ) (name : Name) (access : Access) (result : Result Names LookupFault) (fault : ImageFault) (status place : ℕ) → result ≡ Err (Image fault) → Answers (λ names. names) lookup_fault_view result (lookup_of s.net shipped_kinds image access name) → ((b : BrokenImage) → image_fault_view fault ≡ Some b → (status ≡ broken_status b) × (place ≡ broken_place b)) → (image_fault_view fault ≡ None → status ≡ 3) → 24 ≤ status → IsBrokenBy (Some s) image name access status place
lookup_broken s image name access result fault status place is answers told memory least =
    by (image_fault_view fault) refl (subst (λ r. Answers (λ names. names) lookup_fault_view r (lookup_of s.net shipped_kinds image access name)) is answers)
  where
    by : (o : Option BrokenImage) → image_fault_view fault ≡ o → IfSome (no_lookup_by o) (λ (f : NoLookup). lookup_of s.net shipped_kinds image access name ≡ Err f) → IsBrokenBy (Some s) image name access status place
    by None e made = absurd (never (memory e) least)
      where
        never : status ≡ 3 → 24 ≤ status → ⊥
        never three few = omega arith
    by (Some b) e made = record { why = b; broken = made; is = (told b e).0; told = (told b e).1 }

-- what an audit tells
pub audit_broken : (s : SessionState) (image : List ℕ) (result : Result AuditReport AuditFault) (fault : ImageFault) (status place : ℕ) → result ≡ Err (AuditedImage fault) → Answers report_told audit_fault_view result (audit_reading s.net shipped_kinds image) → ((b : BrokenImage) → image_fault_view fault ≡ Some b → (status ≡ broken_status b) × (place ≡ broken_place b)) → (image_fault_view fault ≡ None → status ≡ 3) → 24 ≤ status → IsNoImageBy (Some s) image status place
audit_broken s image result fault status place is answers told memory least =
    by (image_fault_view fault) refl (subst (λ r. Answers report_told audit_fault_view r (audit_reading s.net shipped_kinds image)) is answers)
  where
    by : (o : Option BrokenImage) → image_fault_view fault ≡ o → IfSome o (λ (f : BrokenImage). audit_reading s.net shipped_kinds image ≡ Err f) → IsNoImageBy (Some s) image status place
    by None e made = absurd (never (memory e) least)
      where
        never : status ≡ 3 → 24 ≤ status → ⊥
        never three few = omega arith
    by (Some b) e made = record { why = b; broken = made; is = (told b e).0; told = (told b e).1 }
