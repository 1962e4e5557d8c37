-- The audit of an image: what a report says of it, and what an audit answers.
use Rattle.std.specs.Prelude.{◌≡◌, ℕ, ◌≤◌, ◌↔◌, List, length, map, Option, Some, None, Result, Ok, Err}
use Rattle.dn_interval.specs.declared.span.TheConstants.{TOP}
use Rattle.dn_net.specs.declared.node.NodeDecl.{NodeDecl}
use Rattle.dn_kind.specs.Kind.{Meaning}
use Rattle.dn_kind.specs.Tables.{Held}
use Rattle.dn_image.specs.Image.{ImageWords}
use Rattle.dn_image.specs.Reading.{BrokenImage, broken_image, image_fault_view, image_reading}
use Rattle.dn_audit.specs.declared.fault.AuditFault.{AuditFault}
use Rattle.dn_audit.specs.declared.fault.AuditFault.TheVariants.{Image, OutOfMemory}
use Rattle.dn_audit.specs.declared.report.AuditReport.{AuditReport}
use Rattle.dn_audit.specs.declared.report.Shared.{Shared}
use Rattle.dn_audit.specs.Records.{held_of_nodes, image_records, shut_of_nodes}
use Rattle.dn_audit.specs.Shared.{IsSharedWith, NodesAscend, StandApart, rows_in}
use Rattle.dn_audit.specs.Views.{AreSeen, Sees, TwoSee, viewer_of, viewers}

-- The rows of exactly the names that two or more agents see, each with all agents that see them: by
-- ascending nodes, and in each node as few rows as can be.
pub record AreSharedNames (net : List NodeDecl) (h : Held) (rows : List Shared) : Type 0 where
  pub ascend : NodesAscend 0 rows
  pub apart : (node : ℕ) → StandApart 0 (rows_in node rows)
  pub exact : (node a agent : ℕ) → a ≤ TOP → IsSharedWith (rows_in node rows) a agent
      ↔ (Sees net h agent (record { node = node; addr = a })
      × TwoSee net h (record { node = node; addr = a }))

-- what a report says of an image of so many bytes
pub record IsAudit (net : List NodeDecl) (kinds : List Meaning) (bytes : List ℕ) (i : ImageWords)
    (r : AuditReport) : Type 0 where
  pub size : r.bytes ≡ length bytes
  pub records : r.records ≡ held_of_nodes (image_records net kinds i) 0 net
  pub viewers : map viewer_of r.views ≡ viewers 0 net
  pub views : AreSeen net (image_records net kinds i) r.views
  pub shut : r.shut ≡ shut_of_nodes kinds (image_records net kinds i) 0 net i.words
  pub shared : AreSharedNames net (image_records net kinds i) r.shared

-- bytes are no image, and this is the first field that is wrong
abbrev pub IsBroken : Option BrokenImage → Option BrokenImage → Type 0
IsBroken None told = ⊥
IsBroken (Some b) told = told ≡ Some b

-- What an audit of bytes answers: of an image of the net its report; of other bytes the first field
-- that is wrong. Want of memory comes only where the bytes are an image.
abbrev pub IsAudited : List NodeDecl → List Meaning → List ℕ → Result AuditReport AuditFault → Type 0
IsAudited net kinds bytes (Ok r) =
    (i : ImageWords) × (image_reading net kinds bytes ≡ Ok i) × IsAudit net kinds bytes i r
IsAudited net kinds bytes (Err (Image fault)) =
    IsBroken (broken_image net kinds bytes) (image_fault_view fault)
IsAudited net kinds bytes (Err OutOfMemory) = broken_image net kinds bytes ≡ None

-- There is one report of an image.
abbrev pub OneAudit : Type 0
OneAudit = (net : List NodeDecl) (kinds : List Meaning) (bytes : List ℕ) (i : ImageWords)
    (r s : AuditReport) → IsAudit net kinds bytes i r → IsAudit net kinds bytes i s → r ≡ s
