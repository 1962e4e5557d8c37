-- Where pieces can stand in a unit: what enters it, which of its slots are free, and how pieces keep apart.
use Rattle.std.specs.Prelude.{◌≡◌, ℕ, ◌+◌, ◌-◌, ◌*◌, ◌/◌, ◌%◌, ◌^◌, ◌<◌, ◌≤◌, Bool, true, false, ◌||◌, nat_eq, nat_lt, List, [], ◌∷◌}
use Rattle.std.specs.List.{All, list_any}
use Rattle.std.specs.List.Sorted.{IsNonDecreasingBy}
use Rattle.dn_interval.specs.declared.row.End.{End}
use Rattle.dn_interval.specs.declared.row.Row.{Row}
use Rattle.dn_interval.specs.declared.span.TheConstants.{TOP}
use Rattle.dn_interval.specs.Rows.{Apart, GivenBy}
use Rattle.dn_net.specs.declared.node.NodeDecl.{NodeDecl}
use Rattle.dn_net.specs.declared.node.Unit.{Unit as UnitPart}
use Rattle.dn_net.specs.Decode.{StopsAt}
use Rattle.dn_flat.specs.Crowds.{IsCrowded}
use Rattle.dn_flat.specs.Views.{StopsFrom}
use Rattle.dn_kind.specs.declared.rights.Rights.{Rights}
use Rattle.dn_placement.specs.Placement.{name_on}
use Rattle.dn_placement.specs.Slots.{is_free_in}
use Rattle.dn_place.specs.Exits.{IsExit, IsLone}
use Rattle.dn_tables.specs.declared.table.NodeTable.{NodeTable}
use Rattle.dn_gather.specs.declared.piece.Piece.{Piece}
use Rattle.dn_gather.specs.Scattered.{piece_request}

-- how many inputs a unit has
abbrev pub inputs : UnitPart → ℕ
inputs u = u.slots * 2 ^ u.page

-- so many addresses of an agent, from one on, enter a unit one after another, from an input on
abbrev pub Enters : List NodeDecl → ℕ → ℕ → ℕ → ℕ → ℕ → Type 0
Enters net agent a size unit x = (i : ℕ) → i < size → StopsAt net (name_on agent a i) (name_on unit x i)

-- the rows give stops of the agent, and each that is among so many first inputs of the unit
pub record AreWindows (net : List NodeDecl) (agent unit end : ℕ) (rows : List Row) : Type 0 where
  pub apart : Apart 0 rows
  pub given : (a : ℕ) (z : End) → a ≤ TOP → GivenBy rows a z → StopsFrom net agent a z
  pub all : (a x : ℕ) → a ≤ TOP → x < end → StopsFrom net agent a (record { node = unit; base = x }) →
      GivenBy rows a (record { node = unit; base = x })

-- the slots of a unit, of so many, that are not free, ascending
pub record AreUsed (set : List NodeTable) (unit count : ℕ) (used : List ℕ) : Type 0 where
  pub order : IsNonDecreasingBy (λ slot. slot) used
  pub each : All (λ slot. is_free_in set unit slot ≡ false) used
  pub below : All (λ slot. slot < count) used
  pub all : (slot : ℕ) → slot < count → is_free_in set unit slot ≡ false →
      list_any (nat_eq slot) used ≡ true

-- each slot of a unit from a first to a last one is free
abbrev pub AreFreeIn : List NodeTable → ℕ → ℕ → ℕ → Type 0
AreFreeIn set unit first last = (slot : ℕ) → first ≤ slot → slot ≤ last → is_free_in set unit slot ≡ true

-- So many addresses of an agent, from one on, enter a unit from an input on, all within its slots, and these are free.
pub record Stands (net : List NodeDecl) (set : List NodeTable) (u : UnitPart) (agent unit a size x : ℕ) : Type 0 where
  pub some : 1 ≤ size
  pub fits : a + size ≤ TOP + 1
  pub within : x + size ≤ inputs u
  pub enters : Enters net agent a size unit x
  pub free : AreFreeIn set unit (x / 2 ^ u.page) ((x + size - 1) / 2 ^ u.page)

-- none of so many inputs of a unit from one on is entered from two addresses of agents
abbrev pub AreAlone : List NodeDecl → ℕ → ℕ → ℕ → Type 0
AreAlone net unit x size = (i : ℕ) → i < size → IsCrowded net (name_on unit x i) → ⊥

-- A piece stands at an input, and an output that agrees with the input modulo the page gives it. Its blocks show no more
-- than the piece, and no other address of an agent enters the unit there.
pub record CanStand (net : List NodeDecl) (set : List NodeTable) (u : UnitPart) (agent unit : ℕ) (rights : Rights)
    (p : Piece) (a x : ℕ) : Type 0 where
  pub stands : Stands net set u agent unit a p.size x
  pub port : ℕ
  pub y : ℕ
  pub gives : IsExit net u (piece_request agent rights p) port y
  pub lone : IsLone net u (piece_request agent rights p) port y
  pub agree : x % 2 ^ u.page ≡ y % 2 ^ u.page
  pub alone : AreAlone net unit x p.size

-- two pieces of so many addresses at these inputs take no slot in common: the one ends in a slot before the other
abbrev pub are_parted_at : ℕ → ℕ → ℕ → ℕ → ℕ → Bool
are_parted_at page x size z other =
    nat_lt ((x + size - 1) / 2 ^ page) (z / 2 ^ page) || nat_lt ((z + other - 1) / 2 ^ page) (x / 2 ^ page)

-- a piece of so many addresses at an input takes no slot in common with one of these pieces at their inputs
abbrev pub IsPartedFrom : ℕ → ℕ → ℕ → List Piece → List ℕ → Type 0
IsPartedFrom page x size [] [] = Unit {0}
IsPartedFrom page x size (q ∷ qs) (z ∷ zs) =
    (are_parted_at page x size z q.size ≡ true) × IsPartedFrom page x size qs zs
IsPartedFrom page x size _ _ = ⊥

-- each piece has an address, and none from its input on is past 2^60
abbrev pub AreFew : List Piece → List ℕ → Type 0
AreFew [] [] = Unit {0}
AreFew (q ∷ qs) (z ∷ zs) = (1 ≤ q.size) × (z + q.size ≤ 2 ^ 60) × AreFew qs zs
AreFew _ _ = ⊥

-- pieces are at these inputs, one after another from an address on: so it is for each piece at its address and its
-- input, and no two of them take a slot in common
abbrev pub AreAt : (Piece → ℕ → ℕ → Type 0) → ℕ → ℕ → List Piece → List ℕ → Type 0
AreAt P page a [] [] = Unit {0}
AreAt P page a (p ∷ ps) (x ∷ xs) =
    P p a x × IsPartedFrom page x p.size ps xs × AreAt P page (a + p.size) ps xs
AreAt P page a _ _ = ⊥
