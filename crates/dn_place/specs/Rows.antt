-- Rows that give one name to each address of a stretch, and rows of a node that give what hops want.
use Rattle.std.specs.Prelude.{◌≡◌, ℕ, suc, ◌+◌, ◌-◌, ◌<◌, ◌≤◌, ◌↔◌, Bool, true, ◌||◌, nat_lt, nat_le, List, [], ◌∷◌}
use Rattle.dn_interval.specs.declared.row.End.{End}
use Rattle.dn_interval.specs.declared.row.Row.{Row}
use Rattle.dn_interval.specs.declared.span.TheConstants.{TOP}
use Rattle.dn_interval.specs.Rows.{further_end, Apart, GivenBy}
use Rattle.dn_net.specs.declared.node.NodeDecl.{NodeDecl}
use Rattle.dn_flat.specs.Views.{ResolvesFrom, StopsFrom}
use Rattle.dn_tables.specs.declared.placement.Hop.{Hop}
use Rattle.dn_placement.specs.declared.request.Request.{Request}

-- the row gives the name to the address, moved on to those after it, so many in all, and no other name
pub record InRow (r : Row) (t : End) (size a : ℕ) : Type 0 where
  pub first : ℕ
  pub ends : r.ends ≡ record { node = t.node; base = first } ∷ []
  pub base : first + (a - r.span.lo) ≡ t.base
  pub from : r.span.lo ≤ a
  pub to : a + size ≤ suc r.span.hi

-- the rows give exactly the name to the address, moved on to those after it, so many in all
abbrev pub GivesOnly : List Row → End → ℕ → ℕ → Type 0
GivesOnly rows t size a = (i : ℕ) → i < size → (z : End) → GivenBy rows (a + i) z ↔ (further_end i t ≡ z)

-- the name that hops want: the first hop's input, or the buffer
abbrev pub wanted_name : Request → List Hop → End
wanted_name rq [] = record { node = rq.node; base = rq.base }
wanted_name rq (hop ∷ hops) = record { node = hop.unit; base = hop.x }

-- the address of a node comes to the name: it resolves to it, or, where a hop follows, it is its stop
abbrev pub MeetsWanted : List NodeDecl → List Hop → ℕ → ℕ → End → Type 0
MeetsWanted net [] node a z = ResolvesFrom net node a z
MeetsWanted net (hop ∷ hops) node a z = StopsFrom net node a z

-- the addresses of a stretch come to just the names that hops want, one after another
abbrev pub ComesOnly : List NodeDecl → Request → List Hop → ℕ → ℕ → Type 0
ComesOnly net rq hops node a = (i : ℕ) (z : End) → i < rq.size →
    MeetsWanted net hops node (a + i) z ↔ (further_end i (wanted_name rq hops) ≡ z)

-- The rows of a node that give what hops want: to each address names to which it comes alone; where one of them is wanted,
-- all to which it comes; and all of a stretch that comes to just what is wanted.
pub record AreToward (net : List NodeDecl) (rq : Request) (hops : List Hop) (node : ℕ) (rows : List Row)
    : Type 0 where
  pub apart : Apart 0 rows
  pub given : (a : ℕ) (z : End) → a ≤ TOP → GivenBy rows a z → MeetsWanted net hops node a z
  pub all : (a i : ℕ) (z : End) → a ≤ TOP → i < rq.size → GivenBy rows a (further_end i (wanted_name rq hops)) →
      MeetsWanted net hops node a z → GivenBy rows a z
  pub whole : (a : ℕ) → a + rq.size ≤ TOP + 1 → ComesOnly net rq hops node a → (i : ℕ) → i < rq.size →
      GivenBy rows (a + i) (further_end i (wanted_name rq hops))

-- what the row gives to an address is a stop of the address of the node
abbrev pub GivesStops : List NodeDecl → ℕ → Row → Type 0
GivesStops net node r = (a : ℕ) (z : End) → GivenBy (r ∷ []) a z → StopsFrom net node a z

-- the row has no address of the stretch
abbrev pub is_past : ℕ → ℕ → Row → Bool
is_past a size r = nat_lt r.span.hi a || nat_le (a + size) r.span.lo

-- no address of the stretch is given a name
abbrev pub GivesNone : (ℕ → End → Bool) → ℕ → ℕ → Type 0
GivesNone gives a size = (i : ℕ) → i < size → (z : End) → gives (a + i) z ≡ true → ⊥

-- where no hop follows, no address of the stretch of the node reaches a stop
abbrev pub IsClear : List NodeDecl → ℕ → List Hop → ℕ → ℕ → Type 0
IsClear net node [] a size = (i : ℕ) → i < size → (z : End) → StopsFrom net node (a + i) z → ⊥
IsClear net node (hop ∷ hops) a size = Unit {0}
