-- What looking an address up in an image comes to for C, and auditing one.
use Rattle.std.specs.Prelude.{◌≡◌, ℕ, ◌<◌, List, length, map, Option, Some, None, Ok, Err}
use Rattle.dn_net.specs.declared.node.Name.{Name}
use Rattle.dn_kind.specs.declared.rights.Access.{Access}
use Rattle.dn_image.specs.Reading.{BrokenImage, ends, header, shape, trails}
use Rattle.dn_lookup.specs.Lookup.{lookup_of, no_agent, no_image}
use Rattle.dn_audit.specs.Told.{audit_reading}
use Rattle.dn_tool.specs.Audited.{audit_answer}
use Rattle.dn_session.specs.Open.{SessionState}
use Rattle.dn_session.specs.Shipped.{shipped_kinds}
use Rattle.netconf_c.specs.declared.places.Place.{Place}
use Rattle.netconf_c.specs.Seeing.{place_of, written_from}

-- the handle has a session, in whose net a name of an agent leads to these names for an access,
-- under the records of an image
abbrev pub IsLookedUpIn : Option SessionState → List ℕ → Name → Access → List Name → Type 0
IsLookedUpIn (Some s) image name access names =
    lookup_of s.net shipped_kinds image access name ≡ Ok names
IsLookedUpIn None image name access names = ⊥

-- to so many names it leads, and the first of them are written
pub record AreNamesFound (held : Option SessionState) (image : List ℕ) (name : Name)
    (access : Access)
    (count : ℕ) (places places' : List Place) : Type 0 where
  pub names : List Name
  pub found : IsLookedUpIn held image name access names
  pub all : count ≡ length names
  pub told : places' ≡ written_from 0 (map place_of names) places

-- the handle has a session, in whose net the node of the name is none or no agent
abbrev pub HasNoAgent : Option SessionState → List ℕ → Name → Access → Type 0
HasNoAgent (Some s) image name access =
    lookup_of s.net shipped_kinds image access name ≡ Err no_agent
HasNoAgent None image name access = ⊥

-- the status of bytes that are no image
abbrev pub broken_status : BrokenImage → ℕ
broken_status (ends at) = 24
broken_status (header at) = 25
broken_status (shape unit) = 26
broken_status (trails at) = 27

-- where it is: a byte, or a head
abbrev pub broken_place : BrokenImage → ℕ
broken_place (ends at) = at
broken_place (header at) = at
broken_place (shape unit) = unit
broken_place (trails at) = at

-- the handle has a session, of whose net the bytes are no image for this reason
abbrev pub IsBrokenIn : Option SessionState → List ℕ → Name → Access → BrokenImage → Type 0
IsBrokenIn (Some s) image name access why =
    lookup_of s.net shipped_kinds image access name ≡ Err (no_image why)
IsBrokenIn None image name access why = ⊥

-- the bytes are no image of the net for a reason that has this status and this place
pub record IsBrokenBy (held : Option SessionState) (image : List ℕ) (name : Name) (access : Access)
    (status place : ℕ) : Type 0 where
  pub why : BrokenImage
  pub broken : IsBrokenIn held image name access why
  pub is : status ≡ broken_status why
  pub told : place ≡ broken_place why

-- the handle has a session, and the bytes are an image of its net, of which the program says this
-- text with the word `audit`
abbrev pub IsAuditIn : Option SessionState → List ℕ → List ℕ → Type 0
IsAuditIn (Some s) image text =
    audit_answer s.net (audit_reading s.net shipped_kinds image)
    ≡ record { status = 0; output = text }
IsAuditIn None image text = ⊥

-- the text has so many bytes, for which there is no room
pub record IsAuditTooLong (held : Option SessionState) (image : List ℕ) (size room : ℕ)
    : Type 0 where
  pub text : List ℕ
  pub is : IsAuditIn held image text
  pub counted : size ≡ length text
  pub long : room < size

-- the handle has a session, of whose net the bytes are no image for this reason
abbrev pub IsNoImageIn : Option SessionState → List ℕ → BrokenImage → Type 0
IsNoImageIn (Some s) image why = audit_reading s.net shipped_kinds image ≡ Err why
IsNoImageIn None image why = ⊥

-- the bytes are no image of the net for a reason that has this status and this place
pub record IsNoImageBy (held : Option SessionState) (image : List ℕ) (status place : ℕ)
    : Type 0 where
  pub why : BrokenImage
  pub broken : IsNoImageIn held image why
  pub is : status ≡ broken_status why
  pub told : place ≡ broken_place why
