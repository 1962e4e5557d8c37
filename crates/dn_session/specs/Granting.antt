-- What a request for a grant comes to in a session, where an address of the agent may be asked for.
use Rattle.std.specs.Prelude.{◌≡◌, ℕ, false, List, [], ◌∷◌, ◌++◌, Option, Some, None}
use Rattle.dn_net.specs.declared.node.NodeDecl.{NodeDecl}
use Rattle.dn_kind.specs.Tables.{Held}
use Rattle.dn_tables.specs.Placement.{Place}
use Rattle.dn_placement.specs.declared.request.Request.{Request}
use Rattle.dn_placement.specs.Order.{IsAt, IsFirst, NoneSuited}
use Rattle.dn_view.specs.Addition.{GivesExactly, IsAddition}
use Rattle.dn_book.specs.declared.grant.Grant.{Grant}
use Rattle.dn_book.specs.Book.{slots_of}
use Rattle.dn_book.specs.Writes.{grant_events}
use Rattle.dn_grant.specs.declared.refusal.GrantRefusal.{GrantRefusal}
use Rattle.dn_grant.specs.declared.refusal.GrantRefusal.TheVariants.{NoPlacement}
use Rattle.dn_grant.specs.Grant.{grant_of_request}
use Rattle.dn_grant.specs.Refusal.{grant_refusal}
use Rattle.dn_session.specs.Changing.{IsSessionChanged}
use Rattle.dn_session.specs.Open.{SessionState}
use Rattle.dn_session.specs.Shipped.{shipped_kinds}

-- no refusal holds, and the placement is the first that is admissible, of those at the address where one is asked for
pub record IsPlacedAt (net : List NodeDecl) (book : List Grant) (id : ℕ) (rq : Request) (at : Option ℕ)
    (p : Place) : Type 0 where
  pub allowed : grant_refusal net book id rq ≡ None
  pub first : IsFirst net (slots_of net book) rq at p

-- no addition for the rights of a request gives its agent exactly the request's one address, at the address where one
-- is asked for
abbrev pub NoAdditionAt : List NodeDecl → List Grant → Request → Option ℕ → Type 0
NoAdditionAt net book rq at = (v : ℕ) (added : Held) → IsAt at v →
    IsAddition net (slots_of net book) rq.rights added →
    GivesExactly net (slots_of net book) rq v added → ⊥

-- no refusal holds, and no placement is admissible, at the address where one is asked for; of one address, no addition
-- gives it either
pub record IsUnplacedAt (net : List NodeDecl) (book : List Grant) (id : ℕ) (rq : Request) (at : Option ℕ)
    : Type 0 where
  pub allowed : grant_refusal net book id rq ≡ None
  pub none : NoneSuited net (slots_of net book) rq at
  pub complete : rq.size ≡ 1 → NoAdditionAt net book rq at

-- the session granted the request at an address of its agent, at the first admissible placement: the grant lives, and
-- its events are pending after those that were
pub record IsSessionGranted (s : SessionState) (id : ℕ) (rq : Request) (at : Option ℕ) (v : ℕ) (s' : SessionState)
    : Type 0 where
  pub place : Place
  pub placed : IsPlacedAt s.net s.book.grants id rq at place
  pub address : v ≡ place.v
  pub changed : IsSessionChanged (s.book.grants ++ grant_of_request id rq place ∷ []) false
      (grant_events s.net shipped_kinds s.book.grants s.book.cleared (grant_of_request id rq place)) s s'

-- the refusal is the first of the request that holds; that no placement is admissible is the last
abbrev pub IsRefused : SessionState → ℕ → Request → Option ℕ → GrantRefusal → Type 0
IsRefused s id rq at NoPlacement = IsUnplacedAt s.net s.book.grants id rq at
IsRefused s id rq at why = grant_refusal s.net s.book.grants id rq ≡ Some why
