-- The answer to `audit`, once its text has a net.
use Rattle.std.specs.Prelude.{ℕ, List, ◌++◌, codes, Option, Some, None, Result, Ok, Err}
use Rattle.dn_net.specs.declared.node.NodeDecl.{NodeDecl}
use Rattle.dn_kind.specs.Kind.{Meaning}
use Rattle.dn_image.specs.Reading.{BrokenImage}
use Rattle.dn_audit.specs.Text.{audit_text, broken_text}
use Rattle.dn_audit.specs.Told.{ToldAudit, audit_reading}

-- a status and what is written
pub record AuditOutcome : Type 0 where
  pub status : ℕ
  pub output : List ℕ

-- the line that refuses an input in which no image follows the text
abbrev pub no_image_line : List ℕ
no_image_line = codes "refused: NoImage\n"

-- the line that refuses bytes as an image, by what is wrong with them
abbrev pub broken_line : BrokenImage → List ℕ
broken_line broken = codes "refused: " ++ (broken_text broken ++ codes "\n")

-- the answer to what an audit tells of bytes: the line of their refusal, or the text of the report
abbrev pub audit_answer : List NodeDecl → Result ToldAudit BrokenImage → AuditOutcome
audit_answer net (Err broken) = record { status = 4; output = broken_line broken }
audit_answer net (Ok report) = record { status = 0; output = audit_text net report }

-- the answer to an image, where there is one
abbrev pub image_answer : List Meaning → List NodeDecl → Option (List ℕ) → AuditOutcome
image_answer kinds net None = record { status = 4; output = no_image_line }
image_answer kinds net (Some bytes) = audit_answer net (audit_reading net kinds bytes)
