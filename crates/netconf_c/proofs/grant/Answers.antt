use Rattle.std.proofs.Common.{◌≡◌, ◌∙◌, ap, sym, subst, rules, ℕ, Err, Some}
use Rattle.dn_session.specs.Open.{SessionState}
use Rattle.netconf_c.specs.Calls.{IsUnacceptedIn}
use Rattle.netconf_c.proofs.Unaccepted.{unaccepted}
use Rattle.netconf_c.proofs.grant.Goals.{in-Ok, in-Err-Refused, in-Err-OutOfMemory}
use Rattle.netconf_c.proofs.grant.Goals as goal

pub returns-clause-unaccepted : goal.returns-clause-unaccepted
returns-clause-unaccepted c e =
    let had : c.args.session.now.held ≡ Some c.deref_mut.result.now = search rules in
    elim c.match-grant.branch [
      | in-Ok w ↦ search rules
      | in-Err-Refused w ↦
          subst (λ (first : ℕ). IsUnacceptedIn c.args.session.now.held c.args.id c.args.request.now first) (sym w.address-is)
          (unaccepted _ c.deref_mut.result.now _ _ c.args.at c.grant.result w.in-Err-Refused.why w.refused-status.new.address had (w.in-Err-Refused.is ∙ ap (λ f. Err f) w.in-Err-Refused.field-0-is) (w.refused-status.ensures.told (sym w.status-is ∙ e)) c.grant.ensures.refused)
      | in-Err-OutOfMemory w ↦ search rules
    ]
