-- The first address that a node does not accept is told.
use Rattle.std.proofs.Common.{◌≡◌, ◌∙◌, ap, sym, subst, ℕ, Option, Some, None, Result, Ok, Err}
use Rattle.dn_placement.specs.declared.request.Request.{Request}
use Rattle.dn_grant.specs.declared.refusal.GrantRefusal.{GrantRefusal}
use Rattle.dn_grant.specs.declared.refusal.GrantRefusal.TheVariants.{NotAccepted}
use Rattle.dn_queue.specs.declared.change.ChangeFault.{ChangeFault}
use Rattle.dn_queue.specs.declared.change.ChangeFault.TheVariants.{Refused}
use Rattle.dn_session.specs.Granting.{IsRefused}
use Rattle.dn_session.specs.Open.{SessionState}
use Rattle.netconf_c.specs.Calls.{IsUnacceptedIn}

pub unaccepted : (held : Option SessionState) (s : SessionState) (id : ℕ) (rq : Request) (at : Option ℕ) (result : Result ℕ (ChangeFault GrantRefusal)) (why : GrantRefusal) (first : ℕ) → held ≡ Some s → result ≡ Err (Refused why) → why ≡ NotAccepted first → ((w : GrantRefusal) → result ≡ Err (Refused w) → IsRefused s id rq at w) → IsUnacceptedIn held id rq first
unaccepted held s id rq at result why first had is told refused =
    subst (λ (h : Option SessionState). IsUnacceptedIn h id rq first) (sym had)
    (refused (NotAccepted first) (is ∙ ap (λ (w : GrantRefusal). Err (Refused w)) told))
