-- What agents see under records.
use Rattle.std.specs.Prelude.{ℕ, ◌≤◌, List}
use Rattle.dn_interval.specs.declared.row.End.{End}
use Rattle.dn_interval.specs.declared.row.Row.{Row}
use Rattle.dn_interval.specs.declared.span.TheConstants.{TOP}
use Rattle.dn_interval.specs.Rows.{AreNormal}
use Rattle.dn_net.specs.declared.node.NodeDecl.{NodeDecl}
use Rattle.dn_kind.specs.Tables.{Held, ResolvesUnder}
use Rattle.dn_walk.specs.Ends.{name_of_end}
use Rattle.dn_flat.specs.Views.{StopsFrom}

-- the address of the node resolves to the name under records
abbrev pub ResolvesFromUnder : List NodeDecl → Held → ℕ → ℕ → End → Type 0
ResolvesFromUnder net h node a y =
    ResolvesUnder net h (record { node = node; addr = a }) (name_of_end y)

-- the rows are normal, and give to each address of the node the names to which it resolves under records
abbrev pub AreViewed : List NodeDecl → Held → ℕ → List Row → Type 0
AreViewed net h node rows = AreNormal (ResolvesFromUnder net h node) rows

-- an address of the node reaches a unit
abbrev pub ReachesUnit : List NodeDecl → ℕ → Type 0
ReachesUnit net node = (a : ℕ) × (y : End) × (a ≤ TOP) × StopsFrom net node a y
