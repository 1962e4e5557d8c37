-- The words of the crate that clauses cite, from one place.
pub use Rattle.dn_net.specs.Chain.{Member}
pub use Rattle.dn_net.specs.Decode.{by_entries, by_over, decode, dest_name, in_some_block, is_accepted, is_accepted_at, is_agent, is_agent_at, is_bare, is_closed, is_formed, is_stop, is_unit, leads_in_range, leads_within, over_within, ports_within, refers_within, sent_names, step_limit, step_view, steps, top, unit_at, within}
pub use Rattle.dn_net.specs.Legal.{AreLimits, IsLegalNet, IsNet, LegalBreaksNoRule, node_limit}
pub use Rattle.dn_net.specs.Names.{AfterStepsIsChain, EndNamesAreEnds, EndNamesAscend, ReachedIsWithin, each_step, is_ascending, name_eq, name_lt, passing_names, resolved_names, sorted_names, with_name}
pub use Rattle.dn_net.specs.Order.{places_from}
pub use Rattle.dn_net.specs.Parts.{over_dests, over_is_based, parts_of_node}
pub use Rattle.dn_net.specs.Rules.{KeepsNodeRules, KeepsRules, LeastOverlapIsLeast, block_in_range, count_below, dest_in_range, dests_repeat, entry_in_range, fault_of_node, is_vectors, node_fault, node_fault_view, ports_repeat, same_dest, unit_repeats}
pub use Rattle.dn_net.specs.Spans.{is_accepted_in, node_spans, overlaps_in}
pub use Rattle.dn_net.specs.UnitRules.{ChainIsFirst, ForkIsLeast, IsShallow, first_chain, unit_numbers, unit_slots}
pub use Rattle.dn_net.specs.Units.{has_plain_shape, has_plain_unit, has_plain_units, is_plain_shape}
pub use Rattle.dn_net.specs.WalkRules.{ChainIsWalk, CycleIsLeast, CycleIsRow, EndlessIsRefused, GapsAreAll, LiveWalksAreAll, LiveWalksAreInOrder, NoFaultIsShallow, PathIsLeast, ReachIsWithin, ShortestCycleIsShortest, has_loop, is_deep, unit_fault, walk_fault, walk_limit, way_by}
pub use Rattle.dn_net.specs.Walks.{extensions_of, in_order, live_walks, still_walk}
