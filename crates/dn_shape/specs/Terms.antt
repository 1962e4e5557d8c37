-- The words of the crate that clauses cite, from one place.
pub use Rattle.dn_shape.specs.Absorb.{absorb_outcome, dest_of_end, entry_of_row, has_port, is_port, is_rewritten, leads_to, maps_to, net_past, net_within, node_led_past, node_past, rows_past, why_not_at, with_rows}
pub use Rattle.dn_shape.specs.Faults.{absorb_fault_view, split_fault_view}
pub use Rattle.dn_shape.specs.Limits.{dest_limit, has_long_entry, net_of_few_parts, node_of_few_parts, part_limit, parts_of_net, passed_limit}
pub use Rattle.dn_shape.specs.Past.{LeadOn, bare_give, bare_onward}
pub use Rattle.dn_shape.specs.Split.{FreeNumberIsFirst, SpansAreMaximal, accepter, accepter_text, divided_count, entry_onto, free_number, is_divided, maximal_spans, new_nodes, parts_of_split, parts_when_split, sending_node, sending_nodes, split_name, split_outcome, with_accepter, with_accepters}
pub use Rattle.dn_shape.specs.Views.{AbsorbKeepsRules, AbsorbKeepsViews, HaveEqualViews, IsRuledNet, SplitKeepsRules, SplitKeepsViews}
