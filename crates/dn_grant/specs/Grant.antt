-- What a request for a grant comes to: a refusal, or a grant at the first admissible placement.
use Rattle.std.specs.Prelude.{◌≡◌, ℕ, Bool, true, List, [], ◌∷◌, ◌++◌, Option, Some, None, Result, Ok, Err}
use Rattle.dn_base.specs.declared.device.TableEvent.{TableEvent}
use Rattle.dn_net.specs.declared.node.NodeDecl.{NodeDecl}
use Rattle.dn_kind.specs.Kind.{Meaning}
use Rattle.dn_kind.specs.Tables.{Held}
use Rattle.dn_tables.specs.Placement.{Place}
use Rattle.dn_placement.specs.declared.request.Request.{Request}
use Rattle.dn_placement.specs.Order.{IsFirst, NoneSuited}
use Rattle.dn_view.specs.Addition.{GivesExactly, IsAddition}
use Rattle.dn_book.specs.declared.grant.Grant.{Grant}
use Rattle.dn_book.specs.Between.{IsCaught}
use Rattle.dn_book.specs.Book.{slots_of}
use Rattle.dn_book.specs.Writes.{AreAdded, grant_events}
use Rattle.dn_grant.specs.declared.refusal.GrantRefusal.{GrantRefusal}
use Rattle.dn_grant.specs.declared.refusal.GrantRefusal.TheVariants.{NoPlacement}
use Rattle.dn_grant.specs.Refusal.{grant_refusal}

-- the grant of a request at a placement
abbrev pub grant_of_request : ℕ → Request → Place → Grant
grant_of_request id rq p = record { id = id; request = rq; placement = p }

-- no refusal holds, and the placement is the first that is admissible
pub record IsPlaced (net : List NodeDecl) (book : List Grant) (id : ℕ) (rq : Request) (p : Place)
    : Type 0 where
  pub allowed : grant_refusal net book id rq ≡ None
  pub first : IsFirst net (slots_of net book) rq None p

-- no addition for the rights of a request gives its agent exactly the request's one address
abbrev pub NoAddition : List NodeDecl → List Grant → Request → Type 0
NoAddition net book rq = (v : ℕ) (added : Held) → IsAddition net (slots_of net book) rq.rights added →
    GivesExactly net (slots_of net book) rq v added → ⊥

-- no refusal holds, and no placement is admissible; of one address, no addition gives it either
pub record IsUnplaced (net : List NodeDecl) (book : List Grant) (id : ℕ) (rq : Request)
    : Type 0 where
  pub allowed : grant_refusal net book id rq ≡ None
  pub none : NoneSuited net (slots_of net book) rq None
  pub complete : rq.size ≡ 1 → NoAddition net book rq

-- the request is granted at an address of its agent: at the first admissible placement
pub record IsGrantMade (net : List NodeDecl) (book : List Grant) (id : ℕ) (rq : Request) (v : ℕ)
    (next : List Grant) : Type 0 where
  pub place : Place
  pub placed : IsPlaced net book id rq place
  pub address : v ≡ place.v
  pub appended : next ≡ book ++ grant_of_request id rq place ∷ []

-- the refusal is the first of the request that holds; that no placement is admissible is the last
abbrev pub IsGrantRefused : List NodeDecl → List Grant → ℕ → Request → GrantRefusal → Type 0
IsGrantRefused net book id rq NoPlacement = IsUnplaced net book id rq
IsGrantRefused net book id rq why = grant_refusal net book id rq ≡ Some why

-- A turn of `grant`: the first refusal that holds, and the book stays; or the agent's address of the
-- first admissible placement, and the grant is appended.
abbrev pub IsGrantAnswer : List NodeDecl → List Grant → ℕ → Request → Result ℕ GrantRefusal →
    List Grant → Type 0
IsGrantAnswer net book id rq (Ok v) next = IsGrantMade net book id rq v next
IsGrantAnswer net book id rq (Err why) next = IsGrantRefused net book id rq why × (next ≡ book)

-- What a call of `grant` comes to: a turn; or it fails, where no refusal holds that needs no search,
-- and the book stays.
abbrev pub IsGrantOutcome : List NodeDecl → List Grant → ℕ → Request → Option (Result ℕ GrantRefusal) →
    List Grant → Type 0
IsGrantOutcome net book id rq (Some made) next = IsGrantAnswer net book id rq made next
IsGrantOutcome net book id rq None next = (grant_refusal net book id rq ≡ None) × (next ≡ book)

-- The events of a grant at the first admissible placement were added to a log: all of them, or those
-- before the one that failed. After a failure each name resolves under the words that stand then as
-- before the grant or as with it.
pub record IsGrantLogged (net : List NodeDecl) (kinds : List Meaning) (book : List Grant)
    (cleared : Bool) (id : ℕ) (rq : Request) (failed : Bool) (log log' : Option (List TableEvent))
    (words' : List (List ℕ)) : Type 0 where
  pub place : Place
  pub placed : IsPlaced net book id rq place
  pub added : AreAdded (grant_events net kinds book cleared (grant_of_request id rq place)) failed log log'
  pub caught : failed ≡ true →
      IsCaught net kinds words' book (book ++ grant_of_request id rq place ∷ [])
