-- What a session comes to at a route.
use Rattle.std.proofs.Common.{◌≡◌, ap, sym, subst, ℕ, false, List, [], ◌∷◌, ◌++◌, Result, Ok, Err, IfOk}
use Rattle.std.specs.List.{All}
use Rattle.dn_net.specs.declared.node.NodeDecl.{NodeDecl}
use Rattle.dn_kind.specs.Kind.{IsLawful, Meaning}
use Rattle.dn_flat.specs.Levels.{FlatsView}
use Rattle.dn_tables.specs.Placement.{Place}
use Rattle.dn_book.specs.declared.grant.Grant.{Grant}
use Rattle.dn_book.specs.State.{BookState}
use Rattle.dn_book.specs.Writes.{grant_events}
use Rattle.dn_vector.specs.declared.refusal.RouteRefusal.{RouteRefusal}
use Rattle.dn_vector.specs.declared.refusal.RouteRefusal.TheVariants.{NoPlacement}
use Rattle.dn_vector.specs.Route.{IsPlacedRoute, IsRouteRefused, IsUnplacedRoute, grant_of_route}
use Rattle.dn_vector.proofs.Allowed.{allowed_route}
use Rattle.dn_queue.specs.declared.change.ChangeFault.{ChangeFault}
use Rattle.dn_queue.specs.declared.change.ChangeFault.TheVariants.{Refused}
use Rattle.dn_queue.specs.Changing.{IsBookChanged}
use Rattle.dn_queue.specs.Queue.{QueueState}
use Rattle.dn_session.specs.Open.{IsOpen, SessionState}
use Rattle.dn_session.specs.Routing.{IsRouted}
use Rattle.dn_session.specs.Shipped.{shipped_kinds}
use Rattle.dn_session.proofs.Kept.{changed_seen, seen}
use Rattle.dn_session.proofs.Leads.{grant_leads}

-- the line is routed
pub routed_seen : (net : List NodeDecl) (flats : FlatsView) (ks : List Meaning) (book book' : BookState) (queue queue' : QueueState) (id agent line node v : ℕ) (p : Place) (g : Grant) → g ≡ grant_of_route id agent node v p → ks ≡ shipped_kinds → All IsLawful shipped_kinds → IsOpen net flats book queue.units → IsPlacedRoute net book.grants id agent line node v p → IsBookChanged net ks (book.grants ++ g ∷ []) false (grant_events net ks book.grants book.cleared g) book book' queue queue' → IsRouted (seen net book queue) id agent line node v (seen net book' queue')
routed_seen net flats ks book book' queue queue' id agent line node v p g e shipped lawful is placed done = record {
  place = p;
  placed = placed;
  changed = changed_seen net shipped_kinds _ _ _ book book' queue queue'
      (subst (λ (x : Grant). IsBookChanged net shipped_kinds (book.grants ++ x ∷ []) false (grant_events net shipped_kinds book.grants book.cleared x) book book' queue queue') e
      (subst (λ (l : List Meaning). IsBookChanged net l (book.grants ++ g ∷ []) false (grant_events net l book.grants book.cleared g) book book' queue queue') shipped done))
      (grant_leads net book.grants (grant_of_route id agent node v p) book.cleared lawful is.legal is.kept.sound (allowed_route net book.grants id agent line node v p placed.allowed placed.placed));
}

-- the refusal that is told
abbrev why_of : Result ℕ (ChangeFault RouteRefusal) → RouteRefusal
why_of (Err (Refused why)) = why
why_of _ = NoPlacement

-- that no vector has a placement is told
pub unplaced_told : (s : SessionState) (id agent line node : ℕ) → IsUnplacedRoute s.net s.book.grants id agent line node → (why : RouteRefusal) → ◌≡◌ {A = Result ℕ (ChangeFault RouteRefusal)} (Err (Refused NoPlacement)) (Err (Refused why)) → IsRouteRefused s.net s.book.grants id agent line node why
unplaced_told s id agent line node is why e = subst (IsRouteRefused s.net s.book.grants id agent line node) (ap why_of e) is

-- the vector is answered
pub routed_told : (s s' : SessionState) (id agent line node : ℕ) (result : Result ℕ (ChangeFault RouteRefusal)) (v : ℕ) → result ≡ Ok v → IsRouted s id agent line node v s' → IfOk result (λ w. IsRouted s id agent line node w s')
routed_told s s' id agent line node result v e is = subst (λ (r : Result ℕ (ChangeFault RouteRefusal)). IfOk r (λ w. IsRouted s id agent line node w s')) (sym e) is

-- none is
pub none_told : (s s' : SessionState) (id agent line node : ℕ) (result : Result ℕ (ChangeFault RouteRefusal)) (why : ChangeFault RouteRefusal) → result ≡ Err why → IfOk result (λ w. IsRouted s id agent line node w s')
none_told s s' id agent line node result why e = subst (λ (r : Result ℕ (ChangeFault RouteRefusal)). IfOk r (λ w. IsRouted s id agent line node w s')) (sym e) tt
