-- The words of the crate that clauses cite, from one place.
pub use Rattle.dn_parse.specs.Commands.{command_at, with_commands}
pub use Rattle.dn_parse.specs.Descent.{access_at, after_keyword, after_open_at, after_sign, after_word, any_word_at, as_declared, begins_node, begins_order, begins_word, expr_at, factor_at, first_and_most, gather_at, grant_at, in_brackets, index_at, keyword_at, keyword_statement_at, lookup_at, loop_at, measure_at, mode_at, module_at, name_at, node_at, order_at, over_at, part_at, radix_at, resolve_at, route_at, sign_at, spec_at, statement_at, the_word_at, unit_declaration_at, use_at, view_at, whole_statement_at, word_at, word_order_at, word_statement_at}
pub use Rattle.dn_parse.specs.Faults.{GoesOn, IsNoLonger, IsShorter, Places, Reads, ReadsNext, Shortens, halt_fault, halt_view, misplaced_fault, misplaced_view, parse_fault_view, trouble_view}
pub use Rattle.dn_parse.specs.Forms.{is_command_word}
pub use Rattle.dn_parse.specs.Laws.{DeepIsFirst, DeepStops, ReadIsSpelled, RefusedIsFirst, ShallowIsRead, SpelledIsRead, StopIsFinal, StopKeepsStatements}
pub use Rattle.dn_parse.specs.Machine.{whole}
pub use Rattle.dn_parse.specs.Plain.{is_constant, is_constant_index, is_constant_name, is_plain_order, is_plain_piece}
pub use Rattle.dn_parse.specs.Rows.{after_separator, as_one, bracketed_at, by_commas, closed_at, joined_at, member_at, next_member_at, one_behind, row_sign}
pub use Rattle.dn_parse.specs.Script.{script_view}
pub use Rattle.dn_parse.specs.Tree.{Item, declares}
pub use Rattle.dn_parse.specs.Views.{arg_view, block_view, blocks_view, command_view, declaration_view, dest_view, entry_view, expr_view, grant_view, index_view, item_view, maybe_expr_view, maybe_name_view, name_view, opener_view, order_view, param_view, part_view, piece_view, role_view, route_view, spec_view, statement_view, tree_view, unit_view}
pub use Rattle.dn_parse.specs.Whole.{at_stop, before_begin, closed_block, first_line, judge, last_line, line_at, no_blocks_yet, opens_module, outside_blocks, text_reading, with_begin, with_frame, with_item, without_frame}
