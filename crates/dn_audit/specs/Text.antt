-- The text of a report, and of the first field that is wrong in bytes that are no image.
use Rattle.std.specs.Prelude.{ℕ, List, ◌++◌, codes, length, slice_get}
use Rattle.std.specs.Fmt.{decimal}
use Rattle.std.specs.List.{flat_map}
use Rattle.dn_net.specs.declared.node.NodeDecl.{NodeDecl}
use Rattle.dn_kind.specs.declared.rights.Access.{Access}
use Rattle.dn_kind.specs.declared.rights.Access.TheVariants.{Read, Write}
use Rattle.dn_image.specs.Reading.{BrokenImage, ends, header, shape, trails}
use Rattle.dn_print.specs.Names.{address_text, node_text}
use Rattle.dn_print.specs.Rows.{rows_text}
use Rattle.dn_audit.specs.declared.report.Shut.{Shut}
use Rattle.dn_audit.specs.Told.{ToldAudit, ToldShared, ToldView}

-- the full name of a node by its number
abbrev pub numbered_text : List NodeDecl → ℕ → List ℕ
numbered_text net node = node_text (slice_get net node)

-- the word for an access
abbrev pub access_word : Access → List ℕ
access_word Read = codes "read"
access_word Write = codes "write"

-- the heading of a report: its numbers
abbrev pub audit_heading : ToldAudit → List ℕ
audit_heading r =
    codes "audit bytes " ++ (decimal r.bytes ++ (codes " records " ++ (decimal r.records
    ++ (codes " shut " ++ (decimal (length r.shut) ++ (codes " shared "
    ++ (decimal (length r.shared) ++ codes "\n")))))))

-- the heading of a view: its agent, the access and the number of rows
abbrev pub seen_heading : List NodeDecl → ToldView → List ℕ
seen_heading net v =
    codes "view " ++ (numbered_text net v.agent ++ (codes " for " ++ (access_word v.access
    ++ (codes " rows " ++ (decimal (length v.rows) ++ codes "\n")))))

-- a view: its heading, and a line for each row
abbrev pub seen_text : List NodeDecl → ToldView → List ℕ
seen_text net v = seen_heading net v ++ rows_text net v.rows

-- the line of a slot with a shut-out record
abbrev pub shut_text : List NodeDecl → Shut → List ℕ
shut_text net s =
    codes "shut " ++ (numbered_text net s.unit ++ (codes " " ++ (decimal s.slot ++ codes "\n")))

-- an agent of a row of shared addresses
abbrev pub sharer_text : List NodeDecl → ℕ → List ℕ
sharer_text net agent = codes " " ++ numbered_text net agent

-- the line of a row of shared addresses: the node, its first and its last address, and the agents
abbrev pub shared_text : List NodeDecl → ToldShared → List ℕ
shared_text net s =
    codes "shared " ++ (numbered_text net s.node ++ (codes " " ++ (address_text s.lo ++ (codes "-"
    ++ (address_text s.hi ++ (flat_map (sharer_text net) s.agents ++ codes "\n"))))))

-- the text of a report
abbrev pub audit_text : List NodeDecl → ToldAudit → List ℕ
audit_text net r =
    audit_heading r ++ (flat_map (seen_text net) r.views
    ++ (flat_map (shut_text net) r.shut ++ flat_map (shared_text net) r.shared))

-- what is wrong first with bytes that are no image, in words
abbrev pub broken_text : BrokenImage → List ℕ
broken_text (ends at) = codes "image Short " ++ decimal at
broken_text (header at) = codes "image Header " ++ decimal at
broken_text (shape unit) = codes "image Shape " ++ decimal unit
broken_text (trails at) = codes "image Trailing " ++ decimal at
