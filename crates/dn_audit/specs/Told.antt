-- What a report tells, written out by definitions alone, so that it can be said of an image what
-- its audit prints.
use Rattle.std.specs.Prelude.{◌≡◌, ℕ, zero, suc, ◌+◌, Bool, false, ◌&&◌, ◌||◌, List, [], ◌∷◌, length, map, filter, slice_get, Option, None, Result, Ok, Err}
use Rattle.std.specs.List.{flat_map, list_any, range_with_len}
use Rattle.dn_interval.specs.declared.row.End.{End}
use Rattle.dn_interval.specs.declared.span.TheConstants.{TOP}
use Rattle.dn_interval.specs.Listed.{Seen as SeenRow, listed_rows, seen_view}
use Rattle.dn_net.specs.declared.node.Name.{Name}
use Rattle.dn_net.specs.declared.node.NodeDecl.{NodeDecl}
use Rattle.dn_net.specs.Decode.{is_agent_at}
use Rattle.dn_net.specs.Names.{name_eq}
use Rattle.dn_kind.specs.declared.rights.Access.{Access}
use Rattle.dn_kind.specs.declared.rights.Access.TheVariants.{Read, Write}
use Rattle.dn_kind.specs.Kind.{Meaning}
use Rattle.dn_kind.specs.Tables.{Held, allowing, resolved_names_under}
use Rattle.dn_image.specs.Image.{ImageWords}
use Rattle.dn_image.specs.Reading.{BrokenImage, image_fault_view, image_reading}
use Rattle.dn_walk.specs.Ends.{end_of}
use Rattle.dn_audit.specs.declared.fault.AuditFault.{AuditFault}
use Rattle.dn_audit.specs.declared.fault.AuditFault.TheVariants.{Image, OutOfMemory}
use Rattle.dn_audit.specs.declared.report.AuditReport.{AuditReport}
use Rattle.dn_audit.specs.declared.report.Seen.{Seen}
use Rattle.dn_audit.specs.declared.report.Shared.{Shared}
use Rattle.dn_audit.specs.declared.report.Shut.{Shut}
use Rattle.dn_audit.specs.Audit.{IsAudit}
use Rattle.dn_audit.specs.Records.{held_of_nodes, image_records, shut_of_nodes}
use Rattle.dn_audit.specs.Views.{Viewer, viewers}

-- a view as it is told: whose it is, for which access, and its rows
pub record ToldView : Type 0 where
  pub agent : ℕ
  pub access : Access
  pub rows : List SeenRow

-- a row of shared addresses as it is told
pub record ToldShared : Type 0 where
  pub node : ℕ
  pub lo : ℕ
  pub hi : ℕ
  pub agents : List ℕ

-- a report as it is told
pub record ToldAudit : Type 0 where
  pub bytes : ℕ
  pub records : ℕ
  pub views : List ToldView
  pub shut : List Shut
  pub shared : List ToldShared

-- what a view tells
abbrev pub seen_told : Seen → ToldView
seen_told s = record { agent = s.agent; access = s.access; rows = map seen_view s.rows }

-- what a row of shared addresses tells
abbrev pub shared_told : Shared → ToldShared
shared_told s = record { node = s.node; lo = s.span.lo; hi = s.span.hi; agents = s.agents }

-- what a report tells
abbrev pub report_told : AuditReport → ToldAudit
report_told r = record {
  bytes = r.bytes;
  records = r.records;
  views = map seen_told r.views;
  shut = r.shut;
  shared = map shared_told r.shared;
}

-- the names to which an address of an agent resolves under records, as rows have them
abbrev pub ends_under : List NodeDecl → Held → ℕ → ℕ → List End
ends_under net h agent a =
    map end_of (resolved_names_under net h (record { node = agent; addr = a }))

-- what an agent sees for an access
abbrev pub told_view : List NodeDecl → Held → Viewer → ToldView
told_view net h v = record {
  agent = v.agent;
  access = v.access;
  rows = listed_rows (ends_under net (allowing v.access h) v.agent);
}

-- the test holds of one of so many addresses from one on
unfoldable pub holds_from : (ℕ → Bool) → ℕ → ℕ → Bool
holds_from p zero a = false
holds_from p (suc k) a = p a || holds_from p k (suc a)

-- the test holds of an address; no proof unfolds it
unfoldable pub holds_somewhere : (ℕ → Bool) → Bool
holds_somewhere p = holds_from p (TOP + 1) 0

-- an address of the agent resolves to the name for the access
abbrev pub sees_for : List NodeDecl → Held → ℕ → Name → Access → Bool
sees_for net h agent x access = holds_somewhere (λ a.
    list_any (name_eq x)
    (resolved_names_under net (allowing access h) (record { node = agent; addr = a })))

-- it is an agent, and an address of it resolves to the name for some access
abbrev pub sees : List NodeDecl → Held → Name → ℕ → Bool
sees net h x agent =
    is_agent_at (slice_get net agent)
    && (sees_for net h agent x Read || sees_for net h agent x Write)

-- the agents that see a name, ascending
abbrev pub seers : List NodeDecl → Held → Name → List ℕ
seers net h x = filter (sees net h x) (range_with_len 0 (length net))

-- the list, where it has two or more, and else none
abbrev pub if_several : List ℕ → List ℕ
if_several [] = []
if_several (n ∷ []) = []
if_several (n ∷ (m ∷ ms)) = n ∷ (m ∷ ms)

-- agents as names at an address: so the rows of these names go on where the agents stay the same
abbrev pub names_of : ℕ → List ℕ → List End
names_of a agents = map (λ (g : ℕ). record { node = g; base = a }) agents

-- the agents that see an address of a node, where two or more do, as names at the address
abbrev pub sharers : List NodeDecl → Held → ℕ → ℕ → List End
sharers net h node a = names_of a (if_several (seers net h (record { node = node; addr = a })))

-- a row of such names, as it is told
abbrev pub told_row : ℕ → SeenRow → ToldShared
told_row node r =
    record { node = node; lo = r.lo; hi = r.hi; agents = map (λ (e : End). e.node) r.ends }

-- the shared addresses of a node
abbrev pub told_shared_in : List NodeDecl → Held → ℕ → List ToldShared
told_shared_in net h node = map (told_row node) (listed_rows (sharers net h node))

-- the shared addresses of all nodes
abbrev pub told_shared : List NodeDecl → Held → List ToldShared
told_shared net h = flat_map (told_shared_in net h) (range_with_len 0 (length net))

-- what an audit of bytes that are this image tells
abbrev pub told_audit : List NodeDecl → List Meaning → List ℕ → ImageWords → ToldAudit
told_audit net kinds bytes i = record {
  bytes = length bytes;
  records = held_of_nodes (image_records net kinds i) 0 net;
  views = map (told_view net (image_records net kinds i)) (viewers 0 net);
  shut = shut_of_nodes kinds (image_records net kinds i) 0 net i.words;
  shared = told_shared net (image_records net kinds i);
}

-- what an audit tells of bytes by what they say as an image: of an image its report, else the first
-- field that is wrong
abbrev pub told_by : List NodeDecl → List Meaning → List ℕ → Result ImageWords BrokenImage →
    Result ToldAudit BrokenImage
told_by net kinds bytes (Ok i) = Ok (told_audit net kinds bytes i)
told_by net kinds bytes (Err broken) = Err broken

-- what an audit tells of bytes
abbrev pub audit_reading : List NodeDecl → List Meaning → List ℕ → Result ToldAudit BrokenImage
audit_reading net kinds bytes = told_by net kinds bytes (image_reading net kinds bytes)

-- what a fault of an audit says of the bytes; want of memory says nothing
abbrev pub audit_fault_view : AuditFault → Option BrokenImage
audit_fault_view (Image fault) = image_fault_view fault
audit_fault_view OutOfMemory = None

-- The report of an image tells what is written out.
abbrev pub ReportsAreTold : Type 0
ReportsAreTold = (net : List NodeDecl) (kinds : List Meaning) (bytes : List ℕ) (i : ImageWords)
    (r : AuditReport) → IsAudit net kinds bytes i r → report_told r ≡ told_audit net kinds bytes i
