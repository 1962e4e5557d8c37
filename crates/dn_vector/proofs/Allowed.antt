-- What is known of a route for which no refusal holds.
use Rattle.std.proofs.Common.{◌≡◌, ◌∙◌, sym, ap, refl, subst, ℕ, ◌<◌, Bool, true, false, if◌then◌else◌, not, nat_le, List, [], ◌∷◌, ◌++◌, length, slice_get, Option, Some, None, IsTrue}
use Rattle.std.proofs.lemmas.Bool.{leb-false}
use Rattle.std.proofs.lemmas.Option.{slice_get_within}
use Rattle.dn_base.specs.declared.device.TableEvent.{TableEvent}
use Rattle.dn_net.specs.declared.node.NodeDecl.{NodeDecl}
use Rattle.dn_net.specs.Legal.{IsLegalNet}
use Rattle.dn_view.proofs.AddedLaw.{refusal_is_complete}
use Rattle.dn_book.proofs.Begun.{book_is_proper}
use Rattle.dn_book.proofs.Faithful.{grant_keeps_book}
use Rattle.dn_net.specs.Decode.{is_agent_at}
use Rattle.dn_kind.specs.Kind.{Meaning}
use Rattle.dn_tables.specs.Placement.{Place}
use Rattle.dn_placement.specs.Roles.{is_vectors_at}
use Rattle.dn_book.specs.declared.grant.Grant.{Grant}
use Rattle.dn_book.specs.Book.{IsFaithful, IsSound, has_id, slots_of}
use Rattle.dn_book.specs.Laws.{IsGrantFor}
use Rattle.dn_book.specs.Between.{IsCaught}
use Rattle.dn_book.specs.Writes.{AreAdded, grant_events}
use Rattle.dn_vector.specs.declared.refusal.RouteRefusal.TheVariants.{IdUsed, NoAgent, NoTarget, BookFull}
use Rattle.dn_vector.specs.Refusal.{route_refusal}
use Rattle.dn_vector.specs.Route.{IsLeastVector, IsPlacedRoute, IsRouteLogged, IsRouteMade, IsUnplacedRoute, NoRouteAddition, NoVector, grant_of_route}
use Rattle.dn_vector.specs.Vectors.{vector_request}

-- the id is new, the agent is one, the node has vectors, the book has room
pub record IsAllowed (net : List NodeDecl) (book : List Grant) (id agent node : ℕ) : Type 0 where
  pub new : has_id id book ≡ false
  pub agent_is : IsTrue (is_agent_at (slice_get net agent))
  pub target : IsTrue (is_vectors_at (slice_get net node))
  pub few : length book < 4096

pub allowed_is : (net : List NodeDecl) (book : List Grant) (id agent node : ℕ) →
    route_refusal net book id agent node ≡ None → IsAllowed net book id agent node
allowed_is net book id agent node none = by_id (has_id id book) refl none
  where
    by_room : has_id id book ≡ false → IsTrue (is_agent_at (slice_get net agent)) →
        IsTrue (is_vectors_at (slice_get net node)) →
        (f : Bool) → nat_le 4096 (length book) ≡ f → (if f then Some BookFull else None) ≡ None →
        IsAllowed net book id agent node
    by_room i a t true e none = cc
    by_room i a t false e none =
        record { new = i; agent_is = a; target = t; few = leb-false _ _ e }

    by_target : has_id id book ≡ false → IsTrue (is_agent_at (slice_get net agent)) →
        (t : Bool) → is_vectors_at (slice_get net node) ≡ t →
        (if not t then Some NoTarget
        else (if nat_le 4096 (length book) then Some BookFull else None)) ≡ None →
        IsAllowed net book id agent node
    by_target i a false e none = cc
    by_target i a true e none = by_room i a e (nat_le 4096 (length book)) refl none

    by_agent : has_id id book ≡ false → (a : Bool) → is_agent_at (slice_get net agent) ≡ a →
        (if not a then Some NoAgent
        else (if not (is_vectors_at (slice_get net node)) then Some NoTarget
        else (if nat_le 4096 (length book) then Some BookFull else None))) ≡ None →
        IsAllowed net book id agent node
    by_agent i false e none = cc
    by_agent i true e none = by_target i e (is_vectors_at (slice_get net node)) refl none

    by_id : (h : Bool) → has_id id book ≡ h →
        (if h then Some IdUsed
        else (if not (is_agent_at (slice_get net agent)) then Some NoAgent
        else (if not (is_vectors_at (slice_get net node)) then Some NoTarget
        else (if nat_le 4096 (length book) then Some BookFull else None)))) ≡ None →
        IsAllowed net book id agent node
    by_id true e none = cc
    by_id false e none = by_agent e (is_agent_at (slice_get net agent)) refl none

-- a node that has vectors is there
pub vectors_there : (net : List NodeDecl) (node : ℕ) → IsTrue (is_vectors_at (slice_get net node)) →
    node < length net
vectors_there net node target = by (slice_get net node) refl target
  where
    by : (n : Option NodeDecl) → slice_get net node ≡ n → IsTrue (is_vectors_at n) → node < length net
    by None e t = cc
    by (Some n) e t = slice_get_within net node n e

-- its grant at the least vector may come into the book
pub allowed_route : (net : List NodeDecl) (book : List Grant) (id agent line node v : ℕ) (p : Place) →
    route_refusal net book id agent node ≡ None → IsLeastVector net book agent line node v p →
    IsGrantFor net book (grant_of_route id agent node v p)
allowed_route net book id agent line node v p none least =
    let is = allowed_is net book id agent node none in
    record { few = is.few; new = is.new; agent = is.agent_is; rights = refl; placed = least.first.suited.is_placement }

-- the grant of a route that is placed may come into the book
pub placed_grant : (net : List NodeDecl) (book : List Grant) (id agent line node v : ℕ) (p : Place)
    (g : Grant) → g ≡ grant_of_route id agent node v p → IsPlacedRoute net book id agent line node v p →
    IsGrantFor net book g
placed_grant net book id agent line node v p g e is =
    subst (λ (x : Grant). IsGrantFor net book x) (sym e)
    (allowed_route net book id agent line node v p is.allowed is.placed)

-- with that grant a faithful book stays so
pub still_faithful : (net : List NodeDecl) (book next : List Grant) (id agent line node v : ℕ) (p : Place)
    (g : Grant) → g ≡ grant_of_route id agent node v p → IsLegalNet net → IsSound net book →
    IsPlacedRoute net book id agent line node v p → next ≡ book ++ g ∷ [] →
    IsFaithful net book → IsFaithful net next
still_faithful net book next id agent line node v p g e legal sound is appended faithful =
    let made = grant_of_route id agent node v p in
    let keeps = grant_keeps_book net book made legal sound (allowed_route net book id agent line node v p is.allowed is.placed) in
    let whole : next ≡ book ++ made ∷ [] = appended ∙ ap (λ (x : Grant). book ++ x ∷ []) e in
    subst (λ (b : List Grant). IsFaithful net b) (sym whole) (keeps.1 faithful is.placed.first.suited.admissible)

-- a route that is placed and appended is made
pub placed_made : (net : List NodeDecl) (book next : List Grant) (id agent line node v : ℕ) (p : Place)
    (g : Grant) → g ≡ grant_of_route id agent node v p → IsPlacedRoute net book id agent line node v p →
    next ≡ book ++ g ∷ [] → IsRouteMade net book id agent line node v next
placed_made net book next id agent line node v p g e is appended = record {
  place = p;
  placed = is;
  appended = appended ∙ ap (λ (x : Grant). book ++ x ∷ []) e;
}

-- the events of a route that is placed
pub placed_logged : (net : List NodeDecl) (kinds : List Meaning) (book : List Grant) (cleared : Bool)
    (id agent line node v : ℕ) (p : Place) (g : Grant) (failed : Bool)
    (log log' : Option (List TableEvent)) (words' : List (List ℕ)) → g ≡ grant_of_route id agent node v p →
    IsPlacedRoute net book id agent line node v p →
    AreAdded (grant_events net kinds book cleared g) failed log log' →
    (failed ≡ true → IsCaught net kinds words' book (book ++ g ∷ [])) →
    IsRouteLogged net kinds book cleared id agent line node failed log log' words'
placed_logged net kinds book cleared id agent line node v p g failed log log' words' e is added caught = record {
  vector = v;
  place = p;
  placed = is;
  added = subst (λ (x : Grant). AreAdded (grant_events net kinds book cleared x) failed log log') e added;
  caught = λ f. subst (λ (x : Grant). IsCaught net kinds words' book (book ++ x ∷ [])) e (caught f);
}

-- where no vector has an admissible placement, no addition gives one either
pub unplaced : (net : List NodeDecl) (book : List Grant) (id agent line node : ℕ) → IsLegalNet net → IsSound net book →
    route_refusal net book id agent node ≡ None → NoVector net book agent line node →
    IsUnplacedRoute net book id agent line node
unplaced net book id agent line node legal sound allowed none = record { allowed = allowed; none = none; complete = complete }
  where
    complete : NoRouteAddition net book agent line node
    complete vector added free ad ex =
        let is = allowed_is net book id agent node allowed in
        let proper = book_is_proper net book legal sound in
        let p = refusal_is_complete net (slots_of net book) (vector_request agent node vector) line added legal proper is.agent_is refl refl ad ex in
        none vector free p.0 p.1
