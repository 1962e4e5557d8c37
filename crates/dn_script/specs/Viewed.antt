-- The reply to `view`: what an agent is owed, in rows.
use Rattle.std.specs.Prelude.{ℕ, ◌≤◌, ◌↔◌, List, ◌++◌, map, length, codes, slice_get, Option, Some, None, IsTrue}
use Rattle.std.specs.Fmt.{decimal}
use Rattle.dn_interval.specs.declared.row.End.{End}
use Rattle.dn_interval.specs.declared.span.TheConstants.{TOP}
use Rattle.dn_interval.specs.Listed.{Seen, SeenApart, SeenGive, listed_rows}
use Rattle.dn_net.specs.declared.node.NodeDecl.{NodeDecl}
use Rattle.dn_net.specs.Decode.{is_agent_at}
use Rattle.dn_kind.specs.declared.rights.Access.{Access}
use Rattle.dn_kind.specs.Tables.{allowing}
use Rattle.dn_parse.specs.declared.syntax.Mode.{Mode}
use Rattle.dn_view.specs.Views.{ResolvesFromUnder}
use Rattle.dn_module.specs.declared.command.Target.{Target}
use Rattle.dn_book.specs.declared.grant.Grant.{Grant}
use Rattle.dn_book.specs.Book.{IsFaithful, owed_names, records_of}
use Rattle.dn_walk.specs.Ends.{end_of}
use Rattle.dn_print.specs.Rows.{rows_text}
use Rattle.dn_script.specs.Found.{access_of, access_text, agent_of, node_refused_text}

-- the names that a book owes to the addresses of a node for an access, as the fewest rows
abbrev pub owed_rows : List NodeDecl → List Grant → Access → ℕ → List Seen
owed_rows net book access n =
    listed_rows (λ a. map end_of (owed_names net book access (record { node = n; addr = a })))

-- The rows that a node is owed are normal rows of what its addresses resolve to for the access under the records
-- to which the live grants of the book come: they stand apart, two that touch do not go on with one another,
-- and they give to every address exactly the names to which it resolves under these records.
pub record AreOwedRows (net : List NodeDecl) (book : List Grant) (access : Access) (n : ℕ)
    : Type 0 where
  pub apart : SeenApart 0 (owed_rows net book access n)
  pub exact : (a : ℕ) (y : End) → a ≤ TOP →
      ResolvesFromUnder net (allowing access (records_of net book)) n a y
      ↔ SeenGive (owed_rows net book access n) a y

-- So it is for each agent and access, where the book is faithful.
abbrev pub OwedRowsAreNormal : Type 0
OwedRowsAreNormal = (net : List NodeDecl) (book : List Grant) → IsFaithful net book →
    (access : Access) (n : ℕ) → IsTrue (is_agent_at (slice_get net n)) →
    AreOwedRows net book access n

-- the heading of rows, with the access as it was said, and their number
abbrev pub view_heading : List ℕ → Mode → ℕ → List ℕ
view_heading text m count =
    codes "view " ++ (text ++ (access_text m ++ (codes " rows " ++ (decimal count ++ codes "\n"))))

-- rows below such a heading
abbrev pub viewed_text : List NodeDecl → List ℕ → Mode → List Seen → List ℕ
viewed_text net text m rows = view_heading text m (length rows) ++ rows_text net rows

-- the reply to `view` by the agent, where there is one
abbrev pub view_by : List NodeDecl → List Grant → List ℕ → Mode → Option ℕ → List ℕ
view_by net book text m None = node_refused_text (codes "view") text (codes "NoAgent")
view_by net book text m (Some n) = viewed_text net text m (owed_rows net book (access_of m) n)

-- the reply to `view`
abbrev pub view_text : List NodeDecl → List Grant → Target → Mode → List ℕ
view_text net book target m = view_by net book target.text m (agent_of net target.node)
