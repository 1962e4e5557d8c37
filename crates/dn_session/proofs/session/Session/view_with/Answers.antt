use Rattle.std.proofs.Common.{subst, IfOk}
use Rattle.dn_kind.specs.Tables.{allowing}
use Rattle.dn_view.specs.Views.{AreViewed}
use Rattle.dn_book.specs.Book.{IsFaithful, records_of}
use Rattle.dn_session.specs.Open.{SessionState}
use Rattle.dn_session.proofs.Resolved.{if_ok_then, rows_owed, under_kept}
use Rattle.dn_session.proofs.session.Session.view_with.Given.{Over}
use Rattle.dn_session.proofs.session.Session.view_with.Goals.{After-view}
use Rattle.dn_session.proofs.session.Session.view_with.Goals as goal

-- what the node sees under the records of the live grants
seen : (g : Over) (c : After-view g) → IfOk c.view.result (λ rows. AreViewed c.args.self.now.net (allowing c.args.access (records_of c.args.self.now.net c.args.self.now.book.grants)) c.args.node rows)
seen g c =
    subst (λ (s : SessionState). IfOk c.view.result (λ rows. AreViewed s.net (allowing c.args.access (records_of s.net s.book.grants)) c.args.node rows)) c.self.view_is
    (under_kept (λ h. IfOk c.view.result (λ rows. AreViewed c.self.inside.net (allowing c.args.access h) c.args.node rows)) c.self.inside.net _ c.self.inside.book c.tables.result.now c.tables.ensures c.requires.shipped c.self.invariant.kept c.view.ensures.rows)

pub returns-clause-rows : goal.returns-clause-rows
returns-clause-rows g c = seen g c

pub returns-clause-owed : goal.returns-clause-owed
returns-clause-owed g c agent =
    let faithful : IsFaithful c.args.self.now.net c.args.self.now.book.grants = subst (λ (s : SessionState). IsFaithful s.net s.book.grants) c.self.view_is c.self.invariant.faithful in
    if_ok_then c.view.result (seen g c) (λ rows normal. rows_owed c.args.self.now.net c.args.self.now.book.grants c.args.access c.args.node rows faithful agent normal)
