-- The reply to `radix`: the words of a unit as a tree of pages.
use Rattle.std.specs.Prelude.{ℕ, List, [], ◌++◌, codes, slice_index_or, Option, Some, None, Result, Ok, Err}
use Rattle.std.specs.Fmt.{decimal}
use Rattle.dn_net.specs.declared.node.NodeDecl.{NodeDecl}
use Rattle.dn_net.specs.declared.node.Unit.{Unit as UnitPart}
use Rattle.dn_net.specs.Decode.{unit_at}
use Rattle.dn_kind.specs.Kind.{Meaning}
use Rattle.dn_module.specs.declared.command.Target.{Target}
use Rattle.dn_radix.specs.Built.{built}
use Rattle.dn_radix.specs.Tree.{tree_pages}
use Rattle.dn_book.specs.declared.grant.Grant.{Grant as GrantPart}
use Rattle.dn_book.specs.Tables.{tables_of}
use Rattle.dn_print.specs.Dump.{lines_text}
use Rattle.dn_script.specs.Found.{node_refused_text}

-- the heading above the lines of a tree, which has the number of its pages
abbrev pub pages_heading : List ℕ → ℕ → List ℕ
pages_heading name pages = codes "radix " ++ (name ++ (codes " pages " ++ (decimal pages ++ codes "\n")))

-- the reply where the pool has fewer pages than the tree
abbrev pub pool_text : List ℕ → ℕ → List ℕ
pool_text name need = codes "radix " ++ (name ++ (codes " refused: Pool " ++ (decimal need ++ codes "\n")))

-- the reply by what words come to as a tree in a pool
abbrev pub tree_text : List ℕ → List ℕ → Result (List ℕ) ℕ → List ℕ
tree_text name ws (Ok bytes) = pages_heading name (tree_pages ws) ++ lines_text bytes
tree_text name ws (Err need) = pool_text name need

-- the words of a node in the tables of a book
abbrev pub book_words : List Meaning → List NodeDecl → List GrantPart → ℕ → List ℕ
book_words kinds net book n = slice_index_or (tables_of net kinds book) n []

-- a node that has these parts of a unit, where it has any
abbrev pub node_with : ℕ → Option UnitPart → Option ℕ
node_with n None = None
node_with n (Some u) = Some n

-- a node that a command names, where it is a unit
abbrev pub named_unit : List NodeDecl → Option ℕ → Option ℕ
named_unit net None = None
named_unit net (Some n) = node_with n (unit_at net n)

-- the reply to `radix` by the unit, where there is one
abbrev pub radix_by : List Meaning → List NodeDecl → List GrantPart → List ℕ → ℕ → Option ℕ → List ℕ
radix_by kinds net book name pool None = node_refused_text (codes "radix") name (codes "NoUnit")
radix_by kinds net book name pool (Some n) =
    tree_text name (book_words kinds net book n) (built (book_words kinds net book n) pool)

-- the reply to `radix`
abbrev pub radix_text : List Meaning → List NodeDecl → List GrantPart → Target → ℕ → List ℕ
radix_text kinds net book target pool =
    radix_by kinds net book target.text pool (named_unit net target.node)
