-- Blocks of addresses that windows keep whole.
use Rattle.std.specs.Prelude.{◌≡◌, ℕ, ◌+◌, ◌*◌, ◌/◌, ◌%◌, ◌^◌, ◌<◌, ◌≤◌, Bool, ◌&&◌, nat_eq, List, length, Some}
use Rattle.std.specs.List.{list_all}
use Rattle.dn_interval.specs.declared.row.End.{End}
use Rattle.dn_interval.specs.declared.row.Row.{Row}
use Rattle.dn_net.specs.declared.node.NodeDecl.{NodeDecl}
use Rattle.dn_net.specs.declared.node.Unit.{Unit as UnitPart}
use Rattle.dn_net.specs.Decode.{unit_at}
use Rattle.dn_flat.specs.Views.{ResolvesFrom, StopsFrom}

-- in the block of the first address the one that has the place of the second in its own: blocks have so
-- many addresses
abbrev pub moved_in_block : ℕ → ℕ → ℕ → ℕ
moved_in_block m a b = a / m * m + b % m

-- where an address of a node has a stop, each address of its block has a stop in the block of that stop,
-- in its own place
abbrev pub SendsBlocks : List NodeDecl → ℕ → ℕ → Type 0
SendsBlocks net m node = (a b : ℕ) (z : End) → a / m ≡ b / m → StopsFrom net node a z →
    StopsFrom net node b (record { node = z.node; base = moved_in_block m z.base b })

-- blocks of 2 to this power addresses are kept whole by the stops of each node, and no page of a unit is
-- smaller
pub record HasBlocks (net : List NodeDecl) (block : ℕ) : Type 0 where
  pub sends : (node : ℕ) → node < length net → SendsBlocks net (2 ^ block) node
  pub pages : (node : ℕ) (u : UnitPart) → unit_at net node ≡ Some u → block ≤ u.page

-- the number is a multiple of the other
abbrev pub is_whole : ℕ → ℕ → Bool
is_whole m n = nat_eq (n % m) 0

-- the name is the first of a block of so many
abbrev pub end_fits : ℕ → End → Bool
end_fits m e = is_whole m e.base

-- the row begins and ends on the edges of blocks, and so do its names
abbrev pub row_fits : ℕ → Row → Bool
row_fits m r = (is_whole m r.span.lo && is_whole m (r.span.hi + 1)) && list_all (end_fits m) r.ends

-- so does each of the rows
abbrev pub rows_fit : ℕ → List Row → Bool
rows_fit m rows = list_all (row_fits m) rows

-- so does each row of each layer
abbrev pub layers_fit : ℕ → List (List Row) → Bool
layers_fit m layers = list_all (rows_fit m) layers

-- where 2 to a power divides the first number, it divides the second, and this holds of the power
abbrev pub Tells : ℕ → ℕ → (ℕ → Type 0) → Type 0
Tells now was P = (block : ℕ) → now % 2 ^ block ≡ 0 → (was % 2 ^ block ≡ 0) × P block

-- an address of the node from one on up to another resolves to a name
pub record ShowsWithin (net : List NodeDecl) (node lo hi : ℕ) : Type 0 where
  pub address : ℕ
  pub name : End
  pub from : lo ≤ address
  pub to : address ≤ hi
  pub resolves : ResolvesFrom net node address name

-- an address beside a stretch of so many of a node, in the block of the one at this place, resolves to a name
pub record HasBeside (net : List NodeDecl) (node y size block : ℕ) : Type 0 where
  pub place : ℕ
  pub below : place < size
  pub address : ℕ
  pub name : End
  pub inside : address / 2 ^ block ≡ (y + place) / 2 ^ block
  pub apart : (j : ℕ) → j < size → address ≡ y + j → ⊥
  pub resolves : ResolvesFrom net node address name
