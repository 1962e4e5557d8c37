-- Names that go on: what segments and rows come to where each of their names goes on by the rows of its node.
use Rattle.std.specs.Prelude.{ℕ, ◌+◌, ◌-◌, ◌↔◌, Bool, ◌&&◌, List, [], Option, Some, None, slice_get, IsTrue}
use Rattle.std.specs.List.{list_any}
use Rattle.dn_interval.specs.declared.row.Seg.{Seg}
use Rattle.dn_interval.specs.declared.row.End.{End}
use Rattle.dn_interval.specs.declared.row.Row.{Row}
use Rattle.dn_interval.specs.Spans.{in_span}
use Rattle.dn_interval.specs.Rows.{GivenBy}
use Rattle.dn_interval.specs.Strands.{rows_give}

-- the name of an address of the segment goes on to the name, by these rows
abbrev pub seg_goes : List Row → Seg → ℕ → End → Bool
seg_goes rows s a z = in_span s.span a && rows_give rows (s.base + (a - s.span.lo)) z

-- one of the names, moved on from an address to another, goes on to the name, by a test of what each node gives to its addresses
abbrev pub ends_go : (ℕ → ℕ → End → Bool) → List End → ℕ → ℕ → End → Bool
ends_go next ends from a z = list_any (λ e. next e.node (e.base + (a - from)) z) ends

-- a name that the row gives to the address goes on to the name
abbrev pub row_goes : (ℕ → ℕ → End → Bool) → Row → ℕ → End → Bool
row_goes next r a z = in_span r.span a && ends_go next r.ends r.span.lo a z

-- a name that one of the rows gives to the address goes on to the name
abbrev pub rows_go : (ℕ → ℕ → End → Bool) → List Row → ℕ → End → Bool
rows_go next rows a z = list_any (λ r. row_goes next r a z) rows

-- the rows of a node of which this is known; of one that is not there it is none
abbrev pub rows_of : {X : Type 0} → (X → List Row) → Option X → List Row
rows_of f None = []
rows_of f (Some x) = f x

-- the rows of the node, in a list with an item for each node, give the name to the address
abbrev pub gives_by : {X : Type 0} → (X → List Row) → List X → ℕ → ℕ → End → Bool
gives_by f nodes node a z = rows_give (rows_of f (slice_get nodes node)) a z

-- Rows go on to a name exactly where one of the names that they give does.
abbrev pub RowsGoOn : Type 0
RowsGoOn = (next : ℕ → ℕ → End → Bool) (rows : List Row) (a : ℕ) (z : End) →
    IsTrue (rows_go next rows a z) ↔ ((y : End) × GivenBy rows a y × IsTrue (next y.node y.base z))
