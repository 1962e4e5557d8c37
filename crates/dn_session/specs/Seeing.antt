-- What an agent sees in a session.
use Rattle.std.specs.Prelude.{ℕ, List}
use Rattle.dn_interval.specs.declared.row.End.{End}
use Rattle.dn_net.specs.declared.node.NodeDecl.{NodeDecl}
use Rattle.dn_kind.specs.declared.rights.Access.{Access}
use Rattle.dn_walk.specs.Ends.{name_of_end}
use Rattle.dn_book.specs.declared.grant.Grant.{Grant}
use Rattle.dn_book.specs.Book.{Owes}

-- the net or a live grant gives the name to an address of a node for an access
abbrev pub OwesFrom : List NodeDecl → List Grant → Access → ℕ → ℕ → End → Type 0
OwesFrom net book access node a y =
    Owes net book access (record { node = node; addr = a }) (name_of_end y)
