-- What the calls of C come to.
use Rattle.std.specs.Prelude.{◌≡◌, ℕ, ◌<◌, ◌≤◌, Bool, true, false, List, [], length, option_map, position, slice_get, Option, Some, None}
use Rattle.std.specs.Str.{bytes_eq}
use Rattle.dn_base.specs.declared.device.TableEvent.{TableEvent}
use Rattle.dn_base.specs.declared.device.TableEvent.TheVariants.{Make, Write, Fence}
use Rattle.dn_kind.specs.Rights.{are_rights}
use Rattle.dn_placement.specs.declared.request.Request.{Request}
use Rattle.dn_book.specs.Book.{has_id}
use Rattle.dn_grant.specs.declared.refusal.GrantRefusal.{GrantRefusal}
use Rattle.dn_grant.specs.declared.refusal.GrantRefusal.TheVariants.{IdUsed, NoAgent, NoTarget, NotAccepted, BookFull, NoPlacement}
use Rattle.dn_grant.specs.Refusal.{grant_refusal}
use Rattle.dn_session.specs.Granting.{IsSessionGranted, IsRefused}
use Rattle.dn_session.specs.Open.{SessionState}
use Rattle.dn_session.specs.Revoking.{IsSessionRevoked}
use Rattle.netconf_c.specs.declared.events.Event.{Event}

-- what a caller asks for, by numbers: rights are 1 for reading, 2 for writing, 3 for both
abbrev pub asked : ℕ → ℕ → ℕ → ℕ → ℕ → Request
asked agent node base size rights =
    record { agent = agent; node = node; base = base; size = size; rights = record { 0 = rights } }

-- the number is that of rights: 1, 2 or 3
abbrev pub is_rights_number : ℕ → Bool
is_rights_number number = are_rights (record { 0 = number })

-- the status of a call that asks for a session alone: 0 where the handle has one, and 1 where it is
-- closed
abbrev pub standing : Option SessionState → ℕ
standing (Some s) = 0
standing None = 1

-- the handle had a session and has it still, which granted the request
abbrev pub IsGrantedIn : Option SessionState → ℕ → Request → Option ℕ → ℕ →
    Option SessionState → Type 0
IsGrantedIn (Some s) id rq at v (Some s') = IsSessionGranted s id rq at v s'
IsGrantedIn (Some s) id rq at v None = ⊥
IsGrantedIn None id rq at v held' = ⊥

-- the status of a refusal
abbrev pub refusal_status : GrantRefusal → ℕ
refusal_status IdUsed = 16
refusal_status NoAgent = 17
refusal_status NoTarget = 18
refusal_status (NotAccepted first) = 19
refusal_status BookFull = 20
refusal_status NoPlacement = 21

-- the handle has a session, which refuses the request for this reason
abbrev pub IsRefusedIn : Option SessionState → ℕ → Request → Option ℕ → GrantRefusal → Type 0
IsRefusedIn (Some s) id rq at why = IsRefused s id rq at why
IsRefusedIn None id rq at why = ⊥

-- the request is refused for a reason that has this status
pub record IsRefusedBy (held : Option SessionState) (id : ℕ) (rq : Request) (at : Option ℕ)
    (status : ℕ)
    : Type 0 where
  pub why : GrantRefusal
  pub is : status ≡ refusal_status why
  pub refused : IsRefusedIn held id rq at why

-- the handle has a session, and the request has no refusal that needs no search
abbrev pub IsUnrefusedIn : Option SessionState → ℕ → Request → Type 0
IsUnrefusedIn (Some s) id rq = grant_refusal s.net s.book.grants id rq ≡ None
IsUnrefusedIn None id rq = ⊥

-- the handle has a session, and the first refusal of the request is that its node does not accept
-- this address, the first of those that it does not accept
abbrev pub IsUnacceptedIn : Option SessionState → ℕ → Request → ℕ → Type 0
IsUnacceptedIn (Some s) id rq first =
    grant_refusal s.net s.book.grants id rq ≡ Some (NotAccepted first)
IsUnacceptedIn None id rq first = ⊥

-- the handle had a session and has it still, of which the grant of an id was taken out
abbrev pub IsRevokedIn : Option SessionState → ℕ → Option SessionState → Type 0
IsRevokedIn (Some s) id (Some s') = IsSessionRevoked s id s'
IsRevokedIn (Some s) id None = ⊥
IsRevokedIn None id held' = ⊥

-- the handle has a session in which no grant of the id lives
abbrev pub HasNoGrant : Option SessionState → ℕ → Type 0
HasNoGrant (Some s) id = has_id id s.book.grants ≡ false
HasNoGrant None id = ⊥

-- the handle has a session in which a grant of the id lives
abbrev pub HasGrant : Option SessionState → ℕ → Type 0
HasGrant (Some s) id = has_id id s.book.grants ≡ true
HasGrant None id = ⊥

-- an event as C has it: 0 for a unit that was made, with its number of words; 1 for a word that is
-- set, with its number and its value; 2 for a fence
abbrev pub event_of : TableEvent → Event
event_of (Make unit words) = record { kind = 0; unit = unit; word = words; unused = 0; value = 0 }
event_of (Write unit word value) =
    record { kind = 1; unit = unit; word = word; unused = 0; value = value }
event_of Fence = record { kind = 2; unit = 0; word = 0; unused = 0; value = 0 }

-- the events that are pending, and none where there is no session
abbrev pub pending_of : Option SessionState → List TableEvent
pending_of (Some s) = s.pending
pending_of None = []

-- the session with nothing pending
abbrev pub settled_session : Option SessionState → Option SessionState
settled_session (Some s) = Some (record s { pending = [] })
settled_session None = None

-- the number of the first node of a net that has a name
abbrev pub node_named : List ℕ → SessionState → Option ℕ
node_named name s = position (λ d. bytes_eq name d.text) s.net

-- the handle has a session in which this node has the name
abbrev pub IsNodeIn : Option SessionState → List ℕ → ℕ → Type 0
IsNodeIn (Some s) name number = node_named name s ≡ Some number
IsNodeIn None name number = ⊥

-- the handle has a session in which no node has the name
abbrev pub HasNoNode : Option SessionState → List ℕ → Type 0
HasNoNode (Some s) name = node_named name s ≡ None
HasNoNode None name = ⊥

-- the handle has a session in which the node of a number has the name
abbrev pub IsNameIn : Option SessionState → ℕ → List ℕ → Type 0
IsNameIn (Some s) number name = option_map (λ d. d.text) (slice_get s.net number) ≡ Some name
IsNameIn None number name = ⊥

-- the handle has a session in which the name of the node of a number has so many bytes, for which
-- there is no room
pub record IsNameTooLong (held : Option SessionState) (number size room : ℕ) : Type 0 where
  pub name : List ℕ
  pub is : IsNameIn held number name
  pub counted : size ≡ length name
  pub long : room < size

-- the handle has a session with as many nodes as the number or fewer
abbrev pub HasFewerNodes : Option SessionState → ℕ → Type 0
HasFewerNodes (Some s) number = length s.net ≤ number
HasFewerNodes None number = ⊥
