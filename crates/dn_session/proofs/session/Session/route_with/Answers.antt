use Rattle.std.proofs.Common.{◌≡◌, sym, subst, refl, List, None}
use Rattle.dn_kind.specs.Kind.{Meaning}
use Rattle.dn_kind.specs.Units.{IsLegalWith}
use Rattle.dn_book.specs.Tables.{IsKept}
use Rattle.dn_vector.specs.Refusal.{route_refusal}
use Rattle.dn_vector.specs.Route.{IsPlacedRoute, IsRouteRefused}
use Rattle.dn_vector.proofs.Allowed.{allowed_is, placed_grant, still_faithful, unplaced}
use Rattle.dn_session.specs.Open.{SessionState}
use Rattle.dn_session.specs.Routing.{IsRouted}
use Rattle.dn_session.proofs.Kept.{after_change, seen, shipped_lawful}
use Rattle.dn_session.proofs.Routed.{none_told, routed_seen, routed_told, unplaced_told}
use Rattle.dn_session.proofs.session.Session.route_with.Given.{Over}
use Rattle.dn_session.proofs.session.Session.route_with.Goals.{In-Ok-Some, in-Ok, in-Err-commit}
use Rattle.dn_session.proofs.session.Session.route_with.Goals as goal

-- the least free vector that has a placement, and where
placed : (g : Over) (c : In-Ok-Some g) → IsPlacedRoute c.self.inside.net c.self.inside.book.grants c.args.id c.args.agent c.args.line c.args.node c.in-Ok-Some.found.vector c.in-Ok-Some.found.placement
placed g c = record {
  allowed = subst (λ (s : SessionState). route_refusal s.net s.book.grants c.args.id c.args.agent c.args.node ≡ None) (sym c.self.view_is) c.requires.allowed;
  placed = (rw c.in-Ok-Some.field-0-is at c.in-Ok-Some.ensures);
}

pub least_vector-requires : goal.least_vector-requires
least_vector-requires g c =
    let at : route_refusal c.self.inside.net c.self.inside.book.grants c.args.id c.args.agent c.args.node ≡ None = subst (λ (s : SessionState). route_refusal s.net s.book.grants c.args.id c.args.agent c.args.node ≡ None) (sym c.self.view_is) c.requires.allowed in
    let is = allowed_is c.self.inside.net c.self.inside.book.grants c.args.id c.args.agent c.args.node at in
    record {
      asked = record {
        system = record {
          kinded = record { lawful = c.requires.kinds.lawful; legal = subst (λ (ks : List Meaning). IsLegalWith ks c.self.inside.net) (sym c.requires.shipped) c.self.invariant.legal };
          flat = c.self.invariant.flat;
        };
        kept = subst (λ (ks : List Meaning). IsKept c.self.inside.net ks c.self.inside.book.grants c.self.inside.book.set) (sym c.requires.shipped) c.self.invariant.kept;
        agent = is.agent_is;
        target = is.target;
      };
    }

pub returns-in-Ok-None-clause-refused : goal.returns-in-Ok-None-clause-refused
returns-in-Ok-None-clause-refused g c =
    let at : route_refusal c.self.inside.net c.self.inside.book.grants c.args.id c.args.agent c.args.node ≡ None = subst (λ (s : SessionState). route_refusal s.net s.book.grants c.args.id c.args.agent c.args.node ≡ None) (sym c.self.view_is) c.requires.allowed in
    λ why e. subst (λ (s : SessionState). IsRouteRefused s.net s.book.grants c.args.id c.args.agent c.args.line c.args.node why) c.self.view_is
    (unplaced_told (seen c.self.inside.net c.self.inside.book c.self.inside.queue) c.args.id c.args.agent c.args.line c.args.node
    (unplaced c.self.inside.net c.self.inside.book.grants c.args.id c.args.agent c.args.line c.args.node c.self.invariant.legal.legal c.self.invariant.kept.sound at (rw c.in-Ok-None.field-0-is at c.in-Ok-None.ensures)) why e)

pub commit-requires-clause-placed : goal.commit-requires-clause-placed
commit-requires-clause-placed g c =
    placed_grant c.self.inside.net c.self.inside.book.grants c.args.id c.args.agent c.args.line c.args.node c.in-Ok-Some.found.vector c.in-Ok-Some.found.placement
    c.grant-grant.result c.grant-grant.ensures (placed g (goal.at.commit-requires-clause-placed g c).In-Ok-Some)

pub invariant_of-self : goal.invariant_of-self
invariant_of-self g c =
    let here = (goal.at.invariant_of-self g c).In-Ok-Some in
    after_change c.self.inside.net c.self.inside.flats _ _ _ _ c.self.inside.book c.commit.new.book c.self.inside.queue c.commit.new.queue c.requires.shipped c.self.invariant
    (still_faithful c.self.inside.net c.self.inside.book.grants _ c.args.id c.args.agent c.args.line c.args.node c.in-Ok-Some.found.vector c.in-Ok-Some.found.placement c.grant-grant.result c.grant-grant.ensures
    c.self.invariant.legal.legal c.self.invariant.kept.sound (placed g here) refl c.self.invariant.faithful)
    c.commit.result c.commit.ensures.done c.commit.ensures.unchanged

pub returns-clause-routed : goal.returns-clause-routed
returns-clause-routed g c =
    let here = (goal.at.returns-clause-routed g c).In-Ok-Some in
    let after : SessionState = seen c.self.inside.net c.commit.new.book c.commit.new.queue in
    elim c.match-commit.branch [
      | in-Ok w ↦ routed_told c.args.self.now after c.args.id c.args.agent c.args.line c.args.node c.match-commit.result c.in-Ok-Some.found.vector w.result-is
          (subst (λ (s : SessionState). IsRouted s c.args.id c.args.agent c.args.line c.args.node c.in-Ok-Some.found.vector after) c.self.view_is
          (routed_seen c.self.inside.net c.self.inside.flats _ c.self.inside.book c.commit.new.book c.self.inside.queue c.commit.new.queue c.args.id c.args.agent c.args.line c.args.node c.in-Ok-Some.found.vector c.in-Ok-Some.found.placement c.grant-grant.result
          c.grant-grant.ensures c.requires.shipped (shipped_lawful _ c.args.kinds.now c.requires.kinds c.requires.shipped) c.self.invariant (placed g here) w.in-Ok.ensures.done))
      | in-Err-commit w ↦ none_told c.args.self.now after c.args.id c.args.agent c.args.line c.args.node c.match-commit.result _ w.result-is
    ]
