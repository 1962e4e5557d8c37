-- The nodes that a report names.
use Rattle.std.specs.Prelude.{ℕ, Bool, ◌&&◌, nat_lt}
use Rattle.std.specs.List.{list_all}
use Rattle.dn_interval.specs.Rows.{ends_within}
use Rattle.dn_audit.specs.declared.report.AuditReport.{AuditReport}
use Rattle.dn_audit.specs.declared.report.Seen.{Seen}
use Rattle.dn_audit.specs.declared.report.Shared.{Shared}
use Rattle.dn_audit.specs.declared.report.Shut.{Shut}

-- the view is of one of so many nodes, and so are the names of its rows
abbrev pub is_seen_within : ℕ → Seen → Bool
is_seen_within count s = nat_lt s.agent count && ends_within count s.rows

-- the row is of one of so many nodes, and so are its agents
abbrev pub is_shared_within : ℕ → Shared → Bool
is_shared_within count s = nat_lt s.node count && list_all (λ g. nat_lt g count) s.agents

-- each node that a report names is one of so many
abbrev pub is_within_nodes : ℕ → AuditReport → Bool
is_within_nodes count r =
    list_all (is_seen_within count) r.views
    && (list_all (λ (s : Shut). nat_lt s.unit count) r.shut
    && list_all (is_shared_within count) r.shared)
