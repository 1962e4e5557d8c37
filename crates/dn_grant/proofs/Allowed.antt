-- What is known of a request for which no refusal holds.
use Rattle.std.proofs.Common.{◌≡◌, sym, refl, subst, ℕ, ◌+◌, ◌<◌, ◌≤◌, Bool, true, false, if◌then◌else◌, not, nat_le, List, [], ◌∷◌, ◌++◌, length, slice_get, Option, Some, None, IsTrue}
use Rattle.std.proofs.lemmas.Bool.{leb-false}
use Rattle.dn_net.specs.declared.node.NodeDecl.{NodeDecl}
use Rattle.dn_net.specs.Legal.{IsLegalNet}
use Rattle.dn_view.proofs.AddedLaw.{refusal_is_complete}
use Rattle.dn_book.proofs.Begun.{book_is_proper}
use Rattle.dn_book.proofs.Faithful.{grant_keeps_book}
use Rattle.dn_net.specs.Decode.{is_agent_at, top}
use Rattle.dn_kind.specs.Rights.{are_rights}
use Rattle.dn_tables.specs.Placement.{Place}
use Rattle.dn_placement.specs.Order.{IsFirst, NoneSuited}
use Rattle.dn_placement.specs.declared.request.Request.{Request}
use Rattle.dn_book.specs.declared.grant.Grant.{Grant}
use Rattle.dn_book.specs.Book.{IsFaithful, IsSound, has_id, slots_of}
use Rattle.dn_book.specs.Laws.{IsGrantFor}
use Rattle.dn_grant.specs.Grant.{IsUnplaced, NoAddition, grant_of_request}
use Rattle.dn_grant.specs.declared.refusal.GrantRefusal.TheVariants.{IdUsed, NoAgent, NoTarget, BookFull}
use Rattle.dn_grant.specs.Refusal.{grant_refusal, refusal_by}
use Rattle.dn_place.specs.Targets.{is_target_at, refused_address}
use Rattle.dn_place.proofs.Unaccepted.{accepted_within}

-- the id is new, the agent is one, the buffer is not empty and within the addresses, the book has room
pub record IsAllowed (net : List NodeDecl) (book : List Grant) (id : ℕ) (rq : Request) : Type 0 where
  pub new : has_id id book ≡ false
  pub agent : IsTrue (is_agent_at (slice_get net rq.agent))
  pub target : IsTrue (is_target_at (slice_get net rq.node))
  pub accepted : refused_address (slice_get net rq.node) rq.base rq.size ≡ None
  pub few : length book < 4096

pub allowed_is : (net : List NodeDecl) (book : List Grant) (id : ℕ) (rq : Request) →
    grant_refusal net book id rq ≡ None → IsAllowed net book id rq
allowed_is net book id rq none = by_id (has_id id book) refl none
  where
    address : Option ℕ
    address = refused_address (slice_get net rq.node) rq.base rq.size

    by_room : has_id id book ≡ false → IsTrue (is_agent_at (slice_get net rq.agent)) →
        IsTrue (is_target_at (slice_get net rq.node)) → address ≡ None →
        (f : Bool) → nat_le 4096 (length book) ≡ f → (if f then Some BookFull else None) ≡ None →
        IsAllowed net book id rq
    by_room i a t r true e none = cc
    by_room i a t r false e none =
        record { new = i; agent = a; target = t; accepted = r; few = leb-false _ _ e }

    by_address : has_id id book ≡ false → IsTrue (is_agent_at (slice_get net rq.agent)) →
        IsTrue (is_target_at (slice_get net rq.node)) →
        (r : Option ℕ) → address ≡ r → refusal_by book r ≡ None → IsAllowed net book id rq
    by_address i a t (Some first) e none = cc
    by_address i a t None e none = by_room i a t e (nat_le 4096 (length book)) refl none

    by_target : has_id id book ≡ false → IsTrue (is_agent_at (slice_get net rq.agent)) →
        (t : Bool) → is_target_at (slice_get net rq.node) ≡ t →
        (if not t then Some NoTarget else refusal_by book address) ≡ None → IsAllowed net book id rq
    by_target i a false e none = cc
    by_target i a true e none = by_address i a e address refl none

    by_agent : has_id id book ≡ false → (a : Bool) → is_agent_at (slice_get net rq.agent) ≡ a →
        (if not a then Some NoAgent
        else (if not (is_target_at (slice_get net rq.node)) then Some NoTarget
        else refusal_by book address)) ≡ None → IsAllowed net book id rq
    by_agent i false e none = cc
    by_agent i true e none = by_target i e (is_target_at (slice_get net rq.node)) refl none

    by_id : (h : Bool) → has_id id book ≡ h →
        (if h then Some IdUsed
        else (if not (is_agent_at (slice_get net rq.agent)) then Some NoAgent
        else (if not (is_target_at (slice_get net rq.node)) then Some NoTarget
        else refusal_by book address))) ≡ None → IsAllowed net book id rq
    by_id true e none = cc
    by_id false e none = by_agent e (is_agent_at (slice_get net rq.agent)) refl none

-- a buffer of a request for which no refusal holds is not empty, and ends at the last address or before
pub allowed_within : (net : List NodeDecl) (book : List Grant) (id : ℕ) (rq : Request) →
    IsAllowed net book id rq → (1 ≤ rq.size) × (rq.base + rq.size ≤ top + 1)
allowed_within net book id rq is = accepted_within (slice_get net rq.node) rq.base rq.size is.accepted

-- its grant at the first admissible placement may come into the book
pub allowed_grant : (net : List NodeDecl) (book : List Grant) (id : ℕ) (rq : Request) (p : Place) →
    grant_refusal net book id rq ≡ None → IsTrue (are_rights rq.rights) →
    IsFirst net (slots_of net book) rq None p → IsGrantFor net book (grant_of_request id rq p)
allowed_grant net book id rq p none rights first =
    let is = allowed_is net book id rq none in
    record { few = is.few; new = is.new; agent = is.agent; rights = rights; placed = first.suited.is_placement }

-- with that grant a faithful book stays so
pub still_faithful : (net : List NodeDecl) (book next : List Grant) (id : ℕ) (rq : Request) (p : Place) →
    IsLegalNet net → IsSound net book → grant_refusal net book id rq ≡ None → IsTrue (are_rights rq.rights) →
    IsFirst net (slots_of net book) rq None p → next ≡ book ++ grant_of_request id rq p ∷ [] →
    IsFaithful net book → IsFaithful net next
still_faithful net book next id rq p legal sound none rights first appended faithful =
    let keeps = grant_keeps_book net book (grant_of_request id rq p) legal sound (allowed_grant net book id rq p none rights first) in
    subst (λ (b : List Grant). IsFaithful net b) (sym appended) (keeps.1 faithful first.suited.admissible)

-- where no placement is admissible, no addition gives one address either
pub unplaced : (net : List NodeDecl) (book : List Grant) (id : ℕ) (rq : Request) → IsLegalNet net → IsSound net book →
    grant_refusal net book id rq ≡ None → IsTrue (are_rights rq.rights) →
    NoneSuited net (slots_of net book) rq None → IsUnplaced net book id rq
unplaced net book id rq legal sound allowed rights none = record { allowed = allowed; none = none; complete = complete }
  where
    complete : rq.size ≡ 1 → NoAddition net book rq
    complete one v added ad ex =
        let is = allowed_is net book id rq allowed in
        let proper = book_is_proper net book legal sound in
        let p = refusal_is_complete net (slots_of net book) rq v added legal proper is.agent rights one ad ex in
        none p.0 (record { is_placement = p.1.is_placement; is_at = tt; admissible = p.1.admissible })
