use Rattle.std.proofs.Common.{◌≡◌, sym, subst, None}
use Rattle.dn_placement.specs.Order.{IsFirst}
use Rattle.dn_book.specs.Book.{slots_of}
use Rattle.dn_grant.specs.Refusal.{grant_refusal}
use Rattle.dn_session.specs.Granting.{IsSessionGranted, IsRefused}
use Rattle.dn_session.specs.Open.{SessionState}
use Rattle.dn_session.proofs.Granted.{granted_seen, granted_told, none_told, unplaced_told}
use Rattle.dn_session.proofs.Kept.{after_change, seen, shipped_lawful}
use Rattle.dn_session.proofs.Placed.{may_ask, placed_faithful, placed_grant, unplaced_at}
use Rattle.dn_session.proofs.session.Session.grant_with.Given.{Over}
use Rattle.dn_session.proofs.session.Session.grant_with.Goals.{In-Ok-Some, in-Ok, in-Err-commit}
use Rattle.dn_session.proofs.session.Session.grant_with.Goals as goal

-- the placement that was found is the first
first : (g : Over) (c : In-Ok-Some g) → IsFirst c.self.inside.net (slots_of c.self.inside.net c.self.inside.book.grants) c.args.request.now c.args.at c.in-Ok-Some.placement
first g c = (rw c.in-Ok-Some.field-0-is at c.in-Ok-Some.ensures.first)

-- no refusal holds that needs no search
allowed : (g : Over) (c : In-Ok-Some g) → grant_refusal c.self.inside.net c.self.inside.book.grants c.args.id c.args.request.now ≡ None
allowed g c = subst (λ (s : SessionState). grant_refusal s.net s.book.grants c.args.id c.args.request.now ≡ None) (sym c.self.view_is) c.requires.allowed

pub first_in_book-requires-clause-request : goal.first_in_book-requires-clause-request
first_in_book-requires-clause-request g c =
    may_ask c.self.inside.net c.self.inside.book.grants c.args.id c.args.request.now c.args.at (subst (λ (s : SessionState). grant_refusal s.net s.book.grants c.args.id c.args.request.now ≡ None) (sym c.self.view_is) c.requires.allowed) c.requires.rights

pub returns-in-Ok-None-clause-refused : goal.returns-in-Ok-None-clause-refused
returns-in-Ok-None-clause-refused g c =
    let at : grant_refusal c.self.inside.net c.self.inside.book.grants c.args.id c.args.request.now ≡ None = subst (λ (s : SessionState). grant_refusal s.net s.book.grants c.args.id c.args.request.now ≡ None) (sym c.self.view_is) c.requires.allowed in
    λ why e. subst (λ (s : SessionState). IsRefused s c.args.id c.args.request.now c.args.at why) c.self.view_is
    (unplaced_told (seen c.self.inside.net c.self.inside.book c.self.inside.queue) c.args.id c.args.request.now c.args.at
    (unplaced_at c.self.inside.net c.self.inside.book.grants c.args.id c.args.request.now c.args.at at c.requires.rights c.self.invariant.legal.legal c.self.invariant.kept.sound (c.in-Ok-None.ensures.none c.in-Ok-None.field-0-is)) why e)

pub commit-requires-clause-placed : goal.commit-requires-clause-placed
commit-requires-clause-placed g c =
    let here = (goal.at.commit-requires-clause-placed g c).In-Ok-Some in
    placed_grant c.self.inside.net c.self.inside.book.grants c.args.id c.args.request.now c.args.at (allowed g here) c.requires.rights c.in-Ok-Some.placement (first g here)

pub invariant_of-self : goal.invariant_of-self
invariant_of-self g c =
    let here = (goal.at.invariant_of-self g c).In-Ok-Some in
    after_change c.self.inside.net c.self.inside.flats _ _ _ _ c.self.inside.book c.commit.new.book c.self.inside.queue c.commit.new.queue c.requires.shipped c.self.invariant
    (placed_faithful c.self.inside.net c.self.inside.book.grants c.args.id c.args.request.now c.args.at (allowed g here) c.requires.rights c.in-Ok-Some.placement c.self.invariant.legal.legal c.self.invariant.kept.sound (first g here) c.self.invariant.faithful)
    c.commit.result c.commit.ensures.done c.commit.ensures.unchanged

pub returns-clause-granted : goal.returns-clause-granted
returns-clause-granted g c =
    let here = (goal.at.returns-clause-granted g c).In-Ok-Some in
    let after : SessionState = seen c.self.inside.net c.commit.new.book c.commit.new.queue in
    elim c.match-commit.branch [
      | in-Ok w ↦ granted_told c.args.self.now after c.args.id c.args.request.now c.args.at c.match-commit.result c.v-v.result w.result-is
          (subst (λ (s : SessionState). IsSessionGranted s c.args.id c.args.request.now c.args.at c.v-v.result after) c.self.view_is
          (granted_seen c.self.inside.net c.self.inside.flats _ c.self.inside.book c.commit.new.book c.self.inside.queue c.commit.new.queue c.args.id c.args.request.now c.args.at c.in-Ok-Some.placement c.v-v.result
          c.requires.shipped (shipped_lawful _ c.args.kinds.now c.requires.kinds c.requires.shipped) c.self.invariant (allowed g here) c.requires.rights (first g here) c.v-v.ensures w.in-Ok.ensures.done))
      | in-Err-commit w ↦ none_told c.args.self.now after c.args.id c.args.request.now c.args.at c.match-commit.result _ w.result-is
    ]
