-- What a route comes to: a refusal, or a grant of the least free vector that has an admissible placement
-- at the line.
use Rattle.std.specs.Prelude.{◌≡◌, ℕ, ◌<◌, Bool, true, List, [], ◌∷◌, ◌++◌, Option, Some, None, Result, Ok, Err, IsTrue}
use Rattle.dn_base.specs.declared.device.TableEvent.{TableEvent}
use Rattle.dn_net.specs.declared.node.NodeDecl.{NodeDecl}
use Rattle.dn_kind.specs.Kind.{Meaning}
use Rattle.dn_kind.specs.Rights.{both_rights}
use Rattle.dn_kind.specs.Tables.{Held}
use Rattle.dn_tables.specs.Placement.{Place}
use Rattle.dn_placement.specs.Order.{IsFirst, NoneSuited}
use Rattle.dn_view.specs.Addition.{GivesExactly, IsAddition}
use Rattle.dn_book.specs.declared.grant.Grant.{Grant}
use Rattle.dn_book.specs.Between.{IsCaught}
use Rattle.dn_book.specs.Book.{slots_of}
use Rattle.dn_book.specs.Writes.{AreAdded, grant_events}
use Rattle.dn_vector.specs.declared.refusal.RouteRefusal.{RouteRefusal}
use Rattle.dn_vector.specs.declared.refusal.RouteRefusal.TheVariants.{NoPlacement}
use Rattle.dn_vector.specs.Refusal.{route_refusal}
use Rattle.dn_vector.specs.Vectors.{is_free_vector, vector_request}

-- the grant of a vector to an agent at a placement
abbrev pub grant_of_route : ℕ → ℕ → ℕ → ℕ → Place → Grant
grant_of_route id agent node vector p =
    record { id = id; request = vector_request agent node vector; placement = p }

-- a vector has no admissible placement at the line
abbrev pub HasNoPlace : List NodeDecl → List Grant → ℕ → ℕ → ℕ → ℕ → Type 0
HasNoPlace net book agent line node vector =
    NoneSuited net (slots_of net book) (vector_request agent node vector) (Some line)

-- the vector is the least that is free and has an admissible placement at the line, and the placement
-- is the first of these
pub record IsLeastVector (net : List NodeDecl) (book : List Grant) (agent line node vector : ℕ)
    (p : Place) : Type 0 where
  pub free : IsTrue (is_free_vector net book node vector)
  pub first : IsFirst net (slots_of net book) (vector_request agent node vector) (Some line) p
  pub least : (lesser : ℕ) → lesser < vector → IsTrue (is_free_vector net book node lesser) →
      HasNoPlace net book agent line node lesser

-- no vector that is free has an admissible placement at the line
abbrev pub NoVector : List NodeDecl → List Grant → ℕ → ℕ → ℕ → Type 0
NoVector net book agent line node = (vector : ℕ) → IsTrue (is_free_vector net book node vector) →
    HasNoPlace net book agent line node vector

-- no addition for both rights gives the agent exactly a free vector of the node at the line
abbrev pub NoRouteAddition : List NodeDecl → List Grant → ℕ → ℕ → ℕ → Type 0
NoRouteAddition net book agent line node = (vector : ℕ) (added : Held) →
    IsTrue (is_free_vector net book node vector) →
    IsAddition net (slots_of net book) both_rights added →
    GivesExactly net (slots_of net book) (vector_request agent node vector) line added → ⊥

-- no refusal holds, and the line is routed to the vector at this placement
pub record IsPlacedRoute (net : List NodeDecl) (book : List Grant) (id agent line node vector : ℕ)
    (p : Place) : Type 0 where
  pub allowed : route_refusal net book id agent node ≡ None
  pub placed : IsLeastVector net book agent line node vector p

-- no refusal holds, and no vector is there; no addition gives one either
pub record IsUnplacedRoute (net : List NodeDecl) (book : List Grant) (id agent line node : ℕ)
    : Type 0 where
  pub allowed : route_refusal net book id agent node ≡ None
  pub none : NoVector net book agent line node
  pub complete : NoRouteAddition net book agent line node

-- the line is routed to a vector
pub record IsRouteMade (net : List NodeDecl) (book : List Grant) (id agent line node vector : ℕ)
    (next : List Grant) : Type 0 where
  pub place : Place
  pub placed : IsPlacedRoute net book id agent line node vector place
  pub appended : next ≡ book ++ grant_of_route id agent node vector place ∷ []

-- the refusal is the first of the route that holds; that no vector has a placement is the last
abbrev pub IsRouteRefused : List NodeDecl → List Grant → ℕ → ℕ → ℕ → ℕ → RouteRefusal → Type 0
IsRouteRefused net book id agent line node NoPlacement =
    IsUnplacedRoute net book id agent line node
IsRouteRefused net book id agent line node why = route_refusal net book id agent node ≡ Some why

-- A turn of `route`: the first refusal that holds, and the book stays; or the vector, and the grant is
-- appended.
abbrev pub IsRouteAnswer : List NodeDecl → List Grant → ℕ → ℕ → ℕ → ℕ → Result ℕ RouteRefusal →
    List Grant → Type 0
IsRouteAnswer net book id agent line node (Ok vector) next =
    IsRouteMade net book id agent line node vector next
IsRouteAnswer net book id agent line node (Err why) next =
    IsRouteRefused net book id agent line node why × (next ≡ book)

-- What a call of `route` comes to: a turn; or it fails, where no refusal holds that needs no search,
-- and the book stays.
abbrev pub IsRouteOutcome : List NodeDecl → List Grant → ℕ → ℕ → ℕ → ℕ →
    Option (Result ℕ RouteRefusal) → List Grant → Type 0
IsRouteOutcome net book id agent line node (Some made) next =
    IsRouteAnswer net book id agent line node made next
IsRouteOutcome net book id agent line node None next =
    (route_refusal net book id agent node ≡ None) × (next ≡ book)

-- The events of a route were added to a log: all of them, or those before the one that failed. After a
-- failure each name resolves under the words that stand then as before the route or as with it.
pub record IsRouteLogged (net : List NodeDecl) (kinds : List Meaning) (book : List Grant)
    (cleared : Bool) (id agent line node : ℕ) (failed : Bool)
    (log log' : Option (List TableEvent)) (words' : List (List ℕ)) : Type 0 where
  pub vector : ℕ
  pub place : Place
  pub placed : IsPlacedRoute net book id agent line node vector place
  pub added : AreAdded
      (grant_events net kinds book cleared (grant_of_route id agent node vector place)) failed log log'
  pub caught : failed ≡ true →
      IsCaught net kinds words' book (book ++ grant_of_route id agent node vector place ∷ [])
