-- The words of the crate that clauses cite, from one place.
pub use Rattle.dn_scope.specs.Faults.{at_line, expand_fault_view, flaw_fault, flaw_fault_view, name_fault_view}
pub use Rattle.dn_scope.specs.Numbered.{is_known, AreNumbered}
pub use Rattle.dn_scope.specs.Uses.{Visibility, arguments_fit, fits_param, given_by, has_twice, line_of_item, line_of_work, module_from, nodes_of, numbers_of, outside, statements, usable_modules, use_rewriting, with_module, word_of_param, replaced_by}
pub use Rattle.dn_scope.specs.Flaws.{Appends, Links, dots_before}
pub use Rattle.dn_scope.specs.Stack.{found_view, after_works, body_view, first_works, rest_works, stack_view, turn_works, turns_works, use_view, visibility_view, work_view}
pub use Rattle.dn_scope.specs.Replace.{Replacement, as_they_stand, in_arg, in_block, in_declaration, in_declared, in_dest, in_entry, in_expression, in_item, in_items, in_option, in_part, in_reference, in_spec, node_by, numbers_by, prefix_of, replacement_hiding, under, value_for_word, word_of_name}
pub use Rattle.dn_scope.specs.Values.{difference, each, full_name, full_name_or_none, number_or_flaw, part_text, value, value_or_default, value_within}
pub use Rattle.dn_scope.specs.Words.{given_view, name_part, number_part, numbers_from, part_in}
