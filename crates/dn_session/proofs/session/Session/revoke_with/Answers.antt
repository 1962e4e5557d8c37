use Rattle.std.proofs.Common.{◌≡◌, true, sym, subst}
use Rattle.dn_book.specs.Book.{has_id}
use Rattle.dn_book.proofs.Faithful.{revoke_keeps_book}
use Rattle.dn_book.proofs.Ids.{IsLive}
use Rattle.dn_book.specs.declared.grant.Grant.{Grant}
use Rattle.dn_session.specs.Open.{SessionState}
use Rattle.dn_session.specs.Revoking.{IsSessionRevoked}
use Rattle.dn_session.proofs.Kept.{after_change, seen, shipped_lawful}
use Rattle.dn_session.proofs.Revoked.{on_ok_then, revoked_seen, some_live}
use Rattle.dn_session.proofs.session.Session.revoke_with.Given.{Over}
use Rattle.dn_session.proofs.session.Session.revoke_with.Goals.{After-revoke}
use Rattle.dn_session.proofs.session.Session.revoke_with.Goals as goal

-- the live grant of the id
live : (g : Over) (c : After-revoke g) → (k : Grant) × IsLive c.self.inside.book.grants c.args.id k
live g c = some_live c.self.inside.book.grants c.args.id (subst (λ (s : SessionState). has_id c.args.id s.book.grants ≡ true) (sym c.self.view_is) c.requires.live)

pub invariant_of-self : goal.invariant_of-self
invariant_of-self g c =
    let k = live g c in
    after_change c.self.inside.net c.self.inside.flats _ _ _ _ c.self.inside.book c.revoke.new.book c.self.inside.queue c.revoke.new.queue c.requires.shipped c.self.invariant
    ((revoke_keeps_book c.self.inside.net c.self.inside.book.grants c.args.id c.self.invariant.legal.legal c.self.invariant.kept.sound).1 c.self.invariant.faithful)
    c.revoke.result (c.revoke.ensures.done k.0 k.1.live k.1.same) c.revoke.ensures.unchanged

pub returns-clause-revoked : goal.returns-clause-revoked
returns-clause-revoked g c =
    let k = live g c in
    on_ok_then c.revoke.result (c.revoke.ensures.done k.0 k.1.live k.1.same) (λ done.
    subst (λ (s : SessionState). IsSessionRevoked s c.args.id (seen c.self.inside.net c.revoke.new.book c.revoke.new.queue)) c.self.view_is
    (revoked_seen c.self.inside.net c.self.inside.flats _ c.self.inside.book c.revoke.new.book c.self.inside.queue c.revoke.new.queue c.args.id k.0
    c.requires.shipped (shipped_lawful _ c.args.kinds.now c.requires.kinds c.requires.shipped) c.self.invariant k.1 done))
