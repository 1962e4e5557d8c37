-- What routing a line of an agent to an interrupt vector comes to for C.
use Rattle.std.specs.Prelude.{◌≡◌, ℕ, Option, Some, None}
use Rattle.dn_vector.specs.declared.refusal.RouteRefusal.{RouteRefusal}
use Rattle.dn_vector.specs.declared.refusal.RouteRefusal.TheVariants.{IdUsed, NoAgent, NoTarget, BookFull, NoPlacement}
use Rattle.dn_vector.specs.Refusal.{route_refusal}
use Rattle.dn_vector.specs.Route.{IsRouteRefused}
use Rattle.dn_session.specs.Open.{SessionState}
use Rattle.dn_session.specs.Routing.{IsRouted}

-- the handle had a session and has it still, which routed the line to the vector
abbrev pub IsRoutedIn : Option SessionState → ℕ → ℕ → ℕ → ℕ → ℕ → Option SessionState → Type 0
IsRoutedIn (Some s) id agent line node v (Some s') = IsRouted s id agent line node v s'
IsRoutedIn (Some s) id agent line node v None = ⊥
IsRoutedIn None id agent line node v held' = ⊥

-- the status of a refusal of a route
abbrev pub route_status : RouteRefusal → ℕ
route_status IdUsed = 16
route_status NoAgent = 17
route_status NoTarget = 18
route_status BookFull = 20
route_status NoPlacement = 21

-- the handle has a session, which refuses the route for this reason
abbrev pub IsRouteRefusedIn : Option SessionState → ℕ → ℕ → ℕ → ℕ → RouteRefusal → Type 0
IsRouteRefusedIn (Some s) id agent line node why =
    IsRouteRefused s.net s.book.grants id agent line node why
IsRouteRefusedIn None id agent line node why = ⊥

-- the route is refused for a reason that has this status
pub record IsRouteRefusedBy (held : Option SessionState) (id agent line node : ℕ) (status : ℕ)
    : Type 0 where
  pub why : RouteRefusal
  pub is : status ≡ route_status why
  pub refused : IsRouteRefusedIn held id agent line node why

-- the handle has a session, and the route has no refusal that needs no search
abbrev pub IsRouteUnrefusedIn : Option SessionState → ℕ → ℕ → ℕ → Type 0
IsRouteUnrefusedIn (Some s) id agent node = route_refusal s.net s.book.grants id agent node ≡ None
IsRouteUnrefusedIn None id agent node = ⊥
