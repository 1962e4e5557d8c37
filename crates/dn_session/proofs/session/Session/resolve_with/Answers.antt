use Rattle.std.proofs.Common.{◌≡◌, ◌∙◌, sym, subst, IfOk}
use Rattle.dn_kind.specs.Tables.{allowing, resolved_names_under}
use Rattle.dn_book.specs.Book.{IsFaithful, records_of}
use Rattle.dn_book.proofs.Owed.{owed_names_are_resolved}
use Rattle.dn_session.specs.Open.{SessionState}
use Rattle.dn_session.proofs.Resolved.{if_ok_then, under_kept}
use Rattle.dn_session.proofs.session.Session.resolve_with.Given.{Over}
use Rattle.dn_session.proofs.session.Session.resolve_with.Goals.{After-resolve_under}
use Rattle.dn_session.proofs.session.Session.resolve_with.Goals as goal

-- what the name resolves to under the records of the live grants
resolved : (g : Over) (c : After-resolve_under g) → IfOk c.resolve_under.result (λ names. names ≡ resolved_names_under c.args.self.now.net (allowing c.args.access (records_of c.args.self.now.net c.args.self.now.book.grants)) c.args.name)
resolved g c =
    subst (λ (s : SessionState). IfOk c.resolve_under.result (λ names. names ≡ resolved_names_under s.net (allowing c.args.access (records_of s.net s.book.grants)) c.args.name)) c.self.view_is
    (under_kept (λ h. IfOk c.resolve_under.result (λ names. names ≡ resolved_names_under c.self.inside.net (allowing c.args.access h) c.args.name)) c.self.inside.net _ c.self.inside.book c.tables.result.now c.tables.ensures c.requires.shipped c.self.invariant.kept c.resolve_under.ensures.names)

pub returns-clause-names : goal.returns-clause-names
returns-clause-names g c = resolved g c

pub returns-clause-owed : goal.returns-clause-owed
returns-clause-owed g c agent =
    let faithful : IsFaithful c.args.self.now.net c.args.self.now.book.grants = subst (λ (s : SessionState). IsFaithful s.net s.book.grants) c.self.view_is c.self.invariant.faithful in
    if_ok_then c.resolve_under.result (resolved g c) (λ names e. e ∙ sym (owed_names_are_resolved c.args.self.now.net c.args.self.now.book.grants faithful c.args.access c.args.name agent))
