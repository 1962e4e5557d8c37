-- The words of the crate that clauses cite, from one place.
pub use Rattle.dn_print.specs.Dump.{DumpIsOne, dump_text, heading_text, line_text, lines_text}
pub use Rattle.dn_print.specs.Names.{Appended, address_text, dests_within, entries_within, name_text, names_text}
pub use Rattle.dn_print.specs.Printable.{PrintableIsReadBack, TextsArePrintable}
pub use Rattle.dn_print.specs.ReadBack.{ReadBack}
pub use Rattle.dn_print.specs.Rows.{end_text, ends_exist, row_text, rows_text}
pub use Rattle.dn_print.specs.Statement.{accept_text, block_text, dest_text, entry_text, joined_texts, map_text, net_text, node_name, over_text, parts_at, role_text, statement_text_at, unit_text}
