-- What the rows of a node give: at each address its resolution, or its stops; and the rows of a view.
use Rattle.std.specs.Prelude.{ℕ, ◌≤◌, ◌↔◌, List, map}
use Rattle.dn_interval.specs.declared.row.End.{End}
use Rattle.dn_interval.specs.declared.span.TheConstants.{TOP}
use Rattle.dn_interval.specs.Listed.{Seen, listed_rows, SeenApart, SeenGive}
use Rattle.dn_net.specs.declared.node.NodeDecl.{NodeDecl}
use Rattle.dn_net.specs.Decode.{Resolves, StopsAt}
use Rattle.dn_net.specs.Names.{resolved_names}
use Rattle.dn_walk.specs.Ends.{end_of, name_of_end}

-- the address of the node resolves to the name
abbrev pub ResolvesFrom : List NodeDecl → ℕ → ℕ → End → Type 0
ResolvesFrom net node a y = Resolves net (record { node = node; addr = a }) (name_of_end y)

-- the name is a stop of the address of the node
abbrev pub StopsFrom : List NodeDecl → ℕ → ℕ → End → Type 0
StopsFrom net node a y = StopsAt net (record { node = node; addr = a }) (name_of_end y)

-- to what the addresses of a node resolve, as the fewest rows
abbrev pub view_rows : List NodeDecl → ℕ → List Seen
view_rows net n = listed_rows (λ a. map end_of (resolved_names net (record { node = n; addr = a })))

-- The rows of a view are normal rows of the resolution of its node: they stand apart, two that touch do not go on with
-- one another, and they give to every address exactly the names to which it resolves.
pub record AreViewRows (net : List NodeDecl) (n : ℕ) : Type 0 where
  pub apart : SeenApart 0 (view_rows net n)
  pub exact : (a : ℕ) (y : End) → a ≤ TOP → ResolvesFrom net n a y ↔ SeenGive (view_rows net n) a y

-- So it is for each node of each net.
abbrev pub ViewRowsAreNormal : Type 0
ViewRowsAreNormal = (net : List NodeDecl) (n : ℕ) → AreViewRows net n
