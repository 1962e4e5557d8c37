-- What routing a line of an agent to an interrupt vector comes to in a session.
use Rattle.std.specs.Prelude.{ℕ, false, [], ◌∷◌, ◌++◌}
use Rattle.dn_tables.specs.Placement.{Place}
use Rattle.dn_book.specs.Writes.{grant_events}
use Rattle.dn_vector.specs.Route.{IsPlacedRoute, grant_of_route}
use Rattle.dn_session.specs.Changing.{IsSessionChanged}
use Rattle.dn_session.specs.Open.{SessionState}
use Rattle.dn_session.specs.Shipped.{shipped_kinds}

-- the session routed the line to the vector, the least that is free and has an admissible placement
-- at the line: the grant of the vector lives, and its events are pending after those that were
pub record IsRouted (s : SessionState) (id agent line node vector : ℕ) (s' : SessionState)
    : Type 0 where
  pub place : Place
  pub placed : IsPlacedRoute s.net s.book.grants id agent line node vector place
  pub changed : IsSessionChanged (s.book.grants ++ grant_of_route id agent node vector place ∷ []) false
      (grant_events s.net shipped_kinds s.book.grants s.book.cleared
      (grant_of_route id agent node vector place)) s s'
