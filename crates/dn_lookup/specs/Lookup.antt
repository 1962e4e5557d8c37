-- The lookup of an agent's address in the bytes of an image.
use Rattle.std.specs.Prelude.{ℕ, Bool, if◌then◌else◌, ◌==◌, ◌&&◌, List, slice_get, Option, Some, None, Result, Ok, Err}
use Rattle.dn_net.specs.declared.node.Name.{Name}
use Rattle.dn_net.specs.declared.node.NodeDecl.{NodeDecl}
use Rattle.dn_net.specs.Decode.{is_agent_at}
use Rattle.dn_kind.specs.declared.rights.Access.{Access}
use Rattle.dn_kind.specs.declared.rights.Access.TheVariants.{Read, Write}
use Rattle.dn_kind.specs.declared.rights.Rights.{Rights}
use Rattle.dn_kind.specs.Rights.{allows}
use Rattle.dn_kind.specs.Kind.{Meaning}
use Rattle.dn_kind.specs.Tables.{Held, record_held, allowing, resolved_names_under}
use Rattle.dn_image.specs.Image.{ImageWords, image_tables}
use Rattle.dn_image.specs.Reading.{BrokenImage, image_reading, image_fault_view, image_words}
use Rattle.dn_lookup.specs.declared.lookup.LookupFault.{LookupFault}
use Rattle.dn_lookup.specs.declared.lookup.LookupFault.TheVariants.{NoAgent, Image, OutOfMemory}

-- why there is no lookup: the node is none or no agent, or the bytes are no image of the net
pub data NoLookup : Type 0 where
  no_agent : NoLookup
  no_image : BrokenImage → NoLookup

-- the records of an image that allow an access
abbrev pub image_records_for : List NodeDecl → List Meaning → ImageWords → Access → Held
image_records_for net kinds i access = allowing access (record_held net kinds (image_tables net kinds i))

-- the records that allow an access of bytes that are an image of this version
abbrev pub bytes_records : List NodeDecl → List Meaning → List ℕ → ℕ → Access → Held
bytes_records net kinds bytes version access =
    image_records_for net kinds (record { version = version; words = image_words net kinds bytes }) access

-- what a name resolves to for an access under the tables of an image, or what is wrong with the bytes
abbrev pub lookup_in : List NodeDecl → List Meaning → Access → Name → Result ImageWords BrokenImage →
    Result (List Name) NoLookup
lookup_in net kinds access x (Ok i) = Ok (resolved_names_under net (image_records_for net kinds i access) x)
lookup_in net kinds access x (Err b) = Err (no_image b)

-- the lookup of an agent's address for an access in bytes
abbrev pub lookup_of : List NodeDecl → List Meaning → List ℕ → Access → Name → Result (List Name) NoLookup
lookup_of net kinds bytes access x =
    if is_agent_at (slice_get net x.node) then lookup_in net kinds access x (image_reading net kinds bytes)
    else Err no_agent

-- what a fault of an image says; want of memory says nothing
abbrev pub no_lookup_by : Option BrokenImage → Option NoLookup
no_lookup_by None = None
no_lookup_by (Some b) = Some (no_image b)

-- what a fault of a lookup says; want of memory says nothing
abbrev pub lookup_fault_view : LookupFault → Option NoLookup
lookup_fault_view NoAgent = Some no_agent
lookup_fault_view (Image fault) = no_lookup_by (image_fault_view fault)
lookup_fault_view OutOfMemory = None

-- in an image of this version a record lets an access through where it allows it; in version 1 it allows both or counts
-- for nothing
abbrev pub lets_through : ℕ → Access → Rights → Bool
lets_through version access rights =
    if version == 1 then allows rights Read && allows rights Write else allows rights access
