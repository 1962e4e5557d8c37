-- The text of rows: a line for each, with its addresses and the names of the first.
use Rattle.std.specs.Prelude.{ℕ, List, ◌++◌, codes}
use Rattle.std.specs.List.{flat_map}
use Rattle.dn_interval.specs.declared.row.End.{End}
use Rattle.dn_interval.specs.Listed.{Seen}
pub use Rattle.dn_interval.specs.Rows.{ends_within as ends_exist}
use Rattle.dn_net.specs.declared.node.NodeDecl.{NodeDecl}
use Rattle.dn_print.specs.Names.{address_text, name_text}
use Rattle.dn_print.specs.Statement.{joined_texts}

-- a name of a row's first address
abbrev pub end_text : List NodeDecl → End → List ℕ
end_text net e = name_text net (record { node = e.node; addr = e.base })

-- the names of a row's first address, joined by commas
abbrev pub ends_text : List NodeDecl → List End → List ℕ
ends_text net es = joined_texts (codes ", ") (end_text net) es

-- a row: its first and its last address, and the names of the first
abbrev pub row_text : List NodeDecl → Seen → List ℕ
row_text net r =
    address_text r.lo ++ (codes "-" ++ (address_text r.hi ++ (codes " " ++ (ends_text net r.ends ++ codes "\n"))))

-- the rows, a line for each
abbrev pub rows_text : List NodeDecl → List Seen → List ℕ
rows_text net rows = flat_map (row_text net) rows
