-- The words of the crate that clauses cite, from one place.
pub use Rattle.dn_audit.specs.Audit.{IsAudit, IsAudited, OneAudit}
pub use Rattle.dn_audit.specs.Claims.{are_within, claim_gives, claimed, claims_give, end_has, is_several, row_has, shared_by, view_has, views_have}
pub use Rattle.dn_audit.specs.Input.{image_part, text_part, zero_at}
pub use Rattle.dn_audit.specs.Nodes.{is_seen_within, is_shared_within, is_within_nodes}
pub use Rattle.dn_audit.specs.Records.{ShutAreShutOut, counted, has_gate, held_of_nodes, held_of_unit, shut_of_nodes, shut_of_unit, shut_slot}
pub use Rattle.dn_audit.specs.Shared.{AddsShared, AreSharedBy}
pub use Rattle.dn_audit.specs.Taking.{HoldsRecords, IsFilledTo, IsStored, records_in, image_says}
pub use Rattle.dn_audit.specs.Text.{access_word, audit_heading, audit_text, broken_text, seen_heading, seen_text, shared_text, sharer_text, shut_text}
pub use Rattle.dn_audit.specs.Told.{ReportsAreTold, audit_fault_view, audit_reading, report_told, seen_told, shared_told, told_audit}
pub use Rattle.dn_audit.specs.Views.{AreSeen, IsSeen, viewer_of, viewers, viewers_at}
