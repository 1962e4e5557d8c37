use Rattle.std.proofs.Common.{subst}
use Rattle.dn_session.specs.Open.{SessionState}
use Rattle.dn_session.specs.Stored.{IsSessionImage}
use Rattle.dn_session.proofs.Kept.{shipped_lawful}
use Rattle.dn_session.proofs.Resolved.{if_ok_then}
use Rattle.dn_session.proofs.Stored.{stored_image}
use Rattle.dn_session.proofs.session.Session.image_with.Goals as goal

pub returns : goal.returns
returns g c =
    if_ok_then c.write.result c.write.ensures (λ bytes written.
    subst (λ (s : SessionState). IsSessionImage s bytes.items) c.self.view_is
    (stored_image (record { net = c.self.inside.net; book = c.self.inside.book; pending = c.self.inside.queue.events }) _ c.tables.result.now bytes.items
    (shipped_lawful _ c.args.kinds.now c.requires.kinds c.requires.shipped)
    (record { legal = c.self.invariant.legal; faithful = c.self.invariant.faithful; kept = c.self.invariant.kept })
    c.requires.shipped c.tables.ensures written))
