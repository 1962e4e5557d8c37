use Rattle.std.proofs.Common.{rules, ◌≡◌, ◌∙◌, ◌++◌, ap, sym, subst, refl, List}
use Rattle.dn_book.specs.declared.grant.Grant.{Grant}
use Rattle.dn_book.specs.Book.{IsFaithful}
use Rattle.dn_grant.proofs.Done.{made_done, refused_done}
use Rattle.dn_gather.specs.declared.refusal.GatherRefusal.TheVariants.{NoPlacement}
use Rattle.dn_gather.specs.Gather.{IsScattered, grants_of}
use Rattle.dn_gather.specs.Grants.{AreGrantsFor}
use Rattle.dn_gather.proofs.Allowed.{allowed_are, allowed_pieces, scattered_grants}
use Rattle.dn_gather.proofs.Coming.{pieces_keep_book}
use Rattle.dn_gather.proofs.Committing.{all_appended}
use Rattle.dn_gather.proofs.Refused.{refused}
use Rattle.dn_gather.proofs.gather.gather.Given.{Over}
use Rattle.dn_gather.proofs.gather.gather.Goals.{In-Ok-Some}
use Rattle.dn_gather.proofs.gather.gather.Goals as goal

pub returns-in-Some : goal.returns-in-Some
returns-in-Some g c = refused_done c.in-Some.why c.requires.ready.change (refused c.args.system.on.net.now c.args.book.now.grants c.args.agent c.args.rights c.args.pieces.now c.in-Some.why (sym c.in-Some.ensures.same), refl)

pub first_in_book-requires-clause-agent : goal.first_in_book-requires-clause-agent
first_in_book-requires-clause-agent g c = (allowed_are c.args.system.on.net.now c.args.book.now.grants c.args.agent c.args.pieces.now (c.refusal.ensures.none c.in_default.is)).by_agent

pub first_in_book-requires-clause-pieces : goal.first_in_book-requires-clause-pieces
first_in_book-requires-clause-pieces g c =
    allowed_pieces c.args.system.on.net.now c.args.book.now.grants c.args.agent c.args.pieces.now (allowed_are c.args.system.on.net.now c.args.book.now.grants c.args.agent c.args.pieces.now (c.refusal.ensures.none c.in_default.is)) c.requires.some c.requires.few

pub returns-in-Ok-None : goal.returns-in-Ok-None
returns-in-Ok-None g c = refused_done NoPlacement c.requires.ready.change (record { allowed = c.refusal.ensures.none c.in_default.is; none = c.in-Ok-None.ensures.none c.in-Ok-None.field-0-is }, refl)

-- the pieces are placed at what was found
placed : (g : Over) (c : In-Ok-Some g) → IsScattered c.args.system.on.net.now c.args.book.now.grants c.args.agent c.args.rights c.args.pieces.now c.in-Ok-Some.scatter
placed g c = record { allowed = c.refusal.ensures.none c.in_default.is; first = (rw c.in-Ok-Some.field-0-is at c.in-Ok-Some.ensures.first) }

-- so their grants may come in
come : (g : Over) (c : In-Ok-Some g) → AreGrantsFor c.args.system.on.net.now c.args.book.now.grants c.args.agent c.args.rights c.in-Ok-Some.scatter.unit c.in-Ok-Some.scatter.v c.args.pieces.now c.in-Ok-Some.scatter.hops
come g c = scattered_grants c.args.system.on.net.now c.args.book.now.grants c.args.agent c.args.rights c.args.pieces.now c.in-Ok-Some.scatter c.requires.rights (placed g c)

pub commit_pieces-requires-clause-placed : goal.commit_pieces-requires-clause-placed
commit_pieces-requires-clause-placed g c =
    let same : c.reserve.new.self.grants ≡ c.args.book.now.grants = search rules in
    subst (λ (b : List Grant). AreGrantsFor c.args.system.on.net.now b c.args.agent c.args.rights c.in-Ok-Some.scatter.unit c.in-Ok-Some.scatter.v c.args.pieces.now c.in-Ok-Some.scatter.hops) (sym same) (come g (goal.at.commit_pieces-requires-clause-placed g c).In-Ok-Some)

pub returns-in-Ok-commit_pieces : goal.returns-in-Ok-commit_pieces
returns-in-Ok-commit_pieces g c =
    let at = (goal.at.returns-in-Ok-commit_pieces g c).In-Ok-Some in
    let gs : List Grant = grants_of c.args.agent c.args.rights c.args.pieces.now c.in-Ok-Some.scatter in
    let same : c.reserve.new.self.grants ≡ c.args.book.now.grants = search rules in
    let appended : c.commit_pieces.new.book.grants ≡ c.args.book.now.grants ++ gs = all_appended _ _ _ _ _ _ _ _ _ c.in-Ok-commit_pieces.ensures.committed ∙ ap (λ (b : List Grant). b ++ gs) same in
    made_done _ (search rules) (search rules)
    (λ faithful. subst (λ (b : List Grant). IsFaithful c.args.system.on.net.now b) (sym appended) ((pieces_keep_book c.args.system.on.net.now c.args.book.now.grants c.args.agent c.args.rights c.in-Ok-Some.scatter.unit c.in-Ok-Some.scatter.v c.args.pieces.now c.in-Ok-Some.scatter.hops c.requires.ready.is_system.kinded.legal.legal c.requires.ready.change.kept.sound (come g at)).1 faithful (placed g at).first.suited.are_admissible))
    (search rules)
