use Rattle.std.proofs.Common.{subst}
use Rattle.dn_session.specs.Open.{IsSession, SessionState}
use Rattle.dn_session.proofs.session.Session.facts.Goals as goal

pub returns : goal.returns
returns c = subst (λ (s : SessionState). IsSession s) c.self.view_is (record { legal = c.self.invariant.legal; faithful = c.self.invariant.faithful; kept = c.self.invariant.kept })
