use Rattle.std.proofs.Common.{subst, IfOk}
use Rattle.dn_session.specs.Gathering.{IsGathered}
use Rattle.dn_session.specs.Open.{SessionState}
use Rattle.dn_session.proofs.Gathering.{gather_open, gather_seen}
use Rattle.dn_session.proofs.Kept.{seen, shipped_lawful}
use Rattle.dn_session.proofs.session.Session.gather_with.Goals as goal

pub invariant_of-self : goal.invariant_of-self
invariant_of-self g c =
    gather_open c.self.inside.net c.self.inside.flats _ c.args.agent c.args.rights c.args.pieces.now c.self.inside.book c.gather_kept.new.book c.self.inside.queue c.gather_kept.new.queue
    c.requires.shipped (shipped_lawful _ c.args.kinds.now c.requires.kinds c.requires.shipped) c.requires.rights c.self.invariant c.gather_kept.result c.gather_kept.ensures.gathered c.gather_kept.ensures.unchanged

pub returns-clause-gathered : goal.returns-clause-gathered
returns-clause-gathered g c =
    subst (λ (s : SessionState). IfOk c.gather_kept.result (λ v. IsGathered s c.args.agent c.args.rights c.args.pieces.now v (seen c.self.inside.net c.gather_kept.new.book c.gather_kept.new.queue))) c.self.view_is
    (gather_seen c.self.inside.net c.self.inside.flats _ c.args.agent c.args.rights c.args.pieces.now c.self.inside.book c.gather_kept.new.book c.self.inside.queue c.gather_kept.new.queue
    c.requires.shipped (shipped_lawful _ c.args.kinds.now c.requires.kinds c.requires.shipped) c.requires.rights c.self.invariant c.requires.some c.gather_kept.result c.gather_kept.ensures.gathered)
