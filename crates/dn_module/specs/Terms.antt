-- The words of the crate that clauses cite, from one place.
pub use Rattle.dn_module.specs.Commands.{asked_of, command_of, commands_of, commands_or_none, has_few_pieces, makes_within, names_within, node_within, nodes_within, piece_target, pieces_within, target_of}
pub use Rattle.dn_module.specs.Drafts.{bare_draft, block_of, dest_of, draft_of, entry_of, known_kind, limit_passed, names, node_draft, node_in, parts_of_draft, role_of, with_draft}
pub use Rattle.dn_module.specs.Expand.{Expansion, all_rewritings, expansion_of, item_rewriting, loop_of, most_steps, nothing_yet, rewriting}
pub use Rattle.dn_module.specs.Finish.{outcome_of, outcome_view}
pub use Rattle.dn_module.specs.Machine.{expansion_state_view, limit_by, with_declaration, works_in_front}
