-- What calls on a book leave: while the book is sound, its tables keep its grants.
use Rattle.std.proofs.Common.{◌≡◌, ◌≢◌, ◌∙◌, ℕ, Bool, true, false, not, sym, ap, subst, refl, List, Some, Result, Ok, Err, OnOk, is_err}
use Rattle.dn_base.specs.Device.{sizes_of}
use Rattle.dn_net.specs.declared.node.NodeDecl.{NodeDecl}
use Rattle.dn_kind.specs.Kind.{Meaning}
use Rattle.dn_kind.specs.Kinded.{kinds_of}
use Rattle.dn_tables.specs.Set.{FitsNet, IsOnDevice}
use Rattle.dn_book.specs.State.{BookState}
use Rattle.dn_book.specs.Tables.{IsKept}
use Rattle.dn_book.specs.Faults.{is_revoke_fault}
use Rattle.dn_book.specs.declared.book.RevokeFault.{RevokeFault}
use Rattle.dn_book.specs.declared.book.RevokeFault.TheVariants.{Device as revoke_device, NoGrant as no_grant}
use Rattle.dn_grant.specs.Faults.{is_grant_fault}
use Rattle.dn_grant.specs.declared.fault.GrantFault.{GrantFault}
use Rattle.dn_grant.specs.declared.fault.GrantFault.TheVariants.{Device as grant_device}
use Rattle.dn_view.specs.Systems.{IsSystem}
use Rattle.test_tables.specs.declared.desk.Desk.{Desk}
use Rattle.test_tables.specs.Desk.{IsDesk}

-- while the book is sound, its tables keep its grants
abbrev pub Keeps : List NodeDecl → List Meaning → BookState → Type 0
Keeps net ks b = b.unfailed ≡ true → IsKept net ks b.grants b.set

-- a book that is as it was keeps what it kept
as_before : (net : List NodeDecl) (ks : List Meaning) (b b' : BookState) → b' ≡ b → Keeps net ks b → Keeps net ks b'
as_before net ks b b' e k = subst (λ x. Keeps net ks x) (sym e) k

-- what came of a call, whose faults are those of the device or leave the book as it was
kept_after : (E : Type 0) (device : E) (is_fault : Result ℕ E → Bool) (net : List NodeDecl) (ks : List Meaning) (b b' : BookState) (D : Type 0) (r : Result ℕ E) → is_fault (Err device) ≡ true → Keeps net ks b → OnOk r (IsKept net ks b'.grants b'.set) → (is_err r ≡ true → r ≢ Err device → (b' ≡ b) × D) → b'.unfailed ≡ not (is_fault r) → Keeps net ks b'
kept_after E device is_fault net ks b b' D (Ok v) is k ok same unfailed = λ t. ok
kept_after E device is_fault net ks b b' D (Err e) is k ok same unfailed = go (is_fault (Err e)) refl
  where
    go : (f : Bool) → is_fault (Err e) ≡ f → Keeps net ks b'
    go true f = λ t. let bad : true ≡ false = sym t ∙ unfailed ∙ ap not f in cc
    go false f = as_before net ks b b' (same refl (λ q. let bad : false ≡ true = sym f ∙ ap is_fault q ∙ is in cc)).0 k

pub granted_keeps : {R : Type 0} (net : List NodeDecl) (ks : List Meaning) (b b' : BookState) (D : Type 0) (r : Result ℕ (GrantFault R)) → Keeps net ks b → OnOk r (IsKept net ks b'.grants b'.set) → (is_err r ≡ true → r ≢ Err grant_device → (b' ≡ b) × D) → b'.unfailed ≡ not (is_grant_fault r) → Keeps net ks b'
granted_keeps {R} net ks b b' D r = kept_after (GrantFault R) grant_device is_grant_fault net ks b b' D r refl

pub revoked_keeps : (net : List NodeDecl) (ks : List Meaning) (b b' : BookState) (D : Type 0) (r : Result (Unit {0}) RevokeFault) → Keeps net ks b → OnOk r (IsKept net ks b'.grants b'.set) → (r ≡ Err no_grant → (b' ≡ b) × D) → b'.unfailed ≡ not (is_revoke_fault r) → Keeps net ks b'
revoked_keeps net ks b b' D (Ok v) k ok same unfailed = λ t. ok
revoked_keeps net ks b b' D (Err revoke_device) k ok same unfailed = λ t. cc
revoked_keeps net ks b b' D (Err no_grant) k ok same unfailed = as_before net ks b b' (same refl).0 k

-- what a call leaves of a desk
pub desk_after : {K : Type 0} {V : K → Type 0} {means : (k : K) × V k → Meaning} {d : Desk K V} → IsSystem means d.system → Keeps d.system.on.net.now (kinds_of means d.system.on.kinds.now) d.book → FitsNet d.system.on.net.now (kinds_of means d.system.on.kinds.now) d.book.set → IsOnDevice d.book.set (sizes_of d.device.tables) (Some d.device.tables) → IsDesk means d
desk_after system kept fits on_device = record { system = system; kept = kept; fits = fits; on_device = on_device }
