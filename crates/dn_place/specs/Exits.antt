-- The outputs of a unit that lead to what comes next on the way to memory.
use Rattle.std.specs.Prelude.{◌≡◌, ℕ, ◌+◌, ◌*◌, ◌%◌, ◌^◌, ◌<◌, ◌≤◌, ◌⊎◌, ◌↔◌, Bool, true, ◌&&◌, nat_eq, List, [], ◌∷◌, slice_get, Some}
use Rattle.std.specs.List.{All, list_any}
use Rattle.std.specs.List.Sorted.{IsNonDecreasingBy}
use Rattle.dn_interval.specs.declared.row.End.{End}
use Rattle.dn_interval.specs.declared.row.Row.{Row}
use Rattle.dn_interval.specs.Rows.{Apart, GivenBy}
use Rattle.dn_net.specs.declared.node.NodeDecl.{NodeDecl}
use Rattle.dn_net.specs.declared.node.Unit.{Unit as UnitPart}
use Rattle.dn_net.specs.Decode.{top}
use Rattle.dn_kind.specs.Kind.{Meaning}
use Rattle.dn_tables.specs.declared.placement.Hop.{Hop}
use Rattle.dn_placement.specs.declared.request.Request.{Request}
use Rattle.dn_placement.specs.Placement.{Meets}
use Rattle.dn_view.specs.Systems.{IsSystem}
use Rattle.dn_place.specs.declared.exits.Exit.{Exit}
use Rattle.dn_place.specs.declared.exits.ExitSearch.{ExitSearch}
use Rattle.dn_place.specs.Blocks.{HasBeside, HasBlocks}
use Rattle.dn_place.specs.Rows.{GivesOnly, wanted_name}
use Rattle.dn_place.specs.Sought.{HasUnitBounds}

-- An output leads to what comes next: it ends by the unit's reach, and from it on the port's node meets the nearer hops,
-- or the request's buffer if there are none.
pub record IsOutput (net : List NodeDecl) (u : UnitPart) (rq : Request) (nearer : List Hop) (port y : ℕ) : Type 0 where
  pub node : ℕ
  pub is_port : slice_get u.ports port ≡ Some node
  pub reached : y + rq.size ≤ 2 ^ u.reach
  pub meets : Meets net rq node y nearer

-- An output gives a request's buffer, where no other hop follows.
abbrev pub IsExit : List NodeDecl → UnitPart → Request → ℕ → ℕ → Type 0
IsExit net u rq port y = IsOutput net u rq [] port y

-- what orders outputs of a unit with this page: the place in a slot, then the port, then the address
abbrev pub exit_rank : ℕ → ℕ → ℕ → ℕ
exit_rank page port y = y % 2 ^ page * 2 ^ 59 + port * 2 ^ 56 + y

-- the output leads to what comes next, and its rank is the one that it has
pub record IsRankedOutput (net : List NodeDecl) (u : UnitPart) (rq : Request) (nearer : List Hop) (e : Exit) : Type 0 where
  pub gives : IsOutput net u rq nearer e.port e.y
  pub ranked : e.rank ≡ exit_rank u.page e.port e.y

-- the output gives the buffer, and its rank is the one that it has
abbrev pub IsRankedExit : List NodeDecl → UnitPart → Request → Exit → Type 0
IsRankedExit net u rq e = IsRankedOutput net u rq [] e

-- the output is listed
abbrev pub has_exit : ℕ → ℕ → List Exit → Bool
has_exit port y exits = list_any (λ e. nat_eq e.port port && nat_eq e.y y) exits

-- no address beside the buffer, in a block of the output that is kept whole, resolves to a name
abbrev pub IsLone : List NodeDecl → UnitPart → Request → ℕ → ℕ → Type 0
IsLone net u rq port y = (node block : ℕ) → slice_get u.ports port ≡ Some node → HasBlocks net block →
    HasBeside net node y rq.size block → ⊥

-- so it is where no hop follows; where one does, nothing is asked
abbrev pub IsAloneBefore : List NodeDecl → UnitPart → Request → List Hop → ℕ → ℕ → Type 0
IsAloneBefore net u rq [] port y = IsLone net u rq port y
IsAloneBefore net u rq (hop ∷ hops) port y = Unit {0}

-- the first port is before the second; or it is the same, and the first address is before the second
abbrev pub IsSooner : ℕ → ℕ → ℕ → ℕ → Type 0
IsSooner p y q z = (p < q) ⊎ ((p ≡ q) × (y < z))

-- each output stands before those after it, by its port and then by its address
abbrev pub Ascend : List Exit → Type 0
Ascend [] = Unit {0}
Ascend (e ∷ es) = All (λ x. IsSooner e.port e.y x.port x.y) es × Ascend es

-- the outputs lead on, they ascend and are of ports before this one; none of such a port that leads on is left out, but
-- where its blocks show more than the buffer
pub record AreExitsTo (net : List NodeDecl) (u : UnitPart) (rq : Request) (nearer : List Hop) (to : ℕ)
    (exits : List Exit) : Type 0 where
  pub each : All (IsRankedOutput net u rq nearer) exits
  pub order : Ascend exits
  pub lower : All (λ e. e.port < to) exits
  pub all : (port y : ℕ) → port < to → IsOutput net u rq nearer port y → IsAloneBefore net u rq nearer port y →
      has_exit port y exits ≡ true

-- how far a pass over the rows of a port's node has come: what is listed, and what the rest of the rows gives, is all
pub record Passing (net : List NodeDecl) (u : UnitPart) (rq : Request) (nearer : List Hop) (port : ℕ)
    (rows rest : List Row) (exits : List Exit) : Type 0 where
  pub bound : ℕ
  pub apart : Apart bound rest
  pub holds : (a : ℕ) (z : End) → bound ≤ a → GivenBy rows a z ↔ GivenBy rest a z
  pub each : All (IsRankedOutput net u rq nearer) exits
  pub order : Ascend exits
  pub lower : All (λ e. IsSooner e.port e.y port bound) exits
  pub before : (p y : ℕ) → p < port → IsOutput net u rq nearer p y → IsAloneBefore net u rq nearer p y →
      has_exit p y exits ≡ true
  pub left : (y : ℕ) → IsOutput net u rq nearer port y → IsAloneBefore net u rq nearer port y →
      (has_exit port y exits ≡ true) ⊎ GivesOnly rest (wanted_name rq nearer) rq.size y

-- the outputs lead on, and they ascend; none that does so is left out, but where its blocks show more than the buffer
pub record AreOutputs (net : List NodeDecl) (u : UnitPart) (rq : Request) (nearer : List Hop) (exits : List Exit)
    : Type 0 where
  pub each : All (IsRankedOutput net u rq nearer) exits
  pub order : Ascend exits
  pub all : (port y : ℕ) → IsOutput net u rq nearer port y → IsAloneBefore net u rq nearer port y →
      has_exit port y exits ≡ true

-- The outputs give the buffer, and they ascend. None that does so is left out, but where its blocks show more than the
-- buffer.
pub record AreExits (net : List NodeDecl) (u : UnitPart) (rq : Request) (exits : List Exit) : Type 0 where
  pub each : All (IsRankedExit net u rq) exits
  pub all : (port y : ℕ) → IsExit net u rq port y → IsLone net u rq port y → has_exit port y exits ≡ true
  pub order : IsNonDecreasingBy (λ (e : Exit). e.rank) exits

-- the unit keeps its bounds, the buffer is none past the last address, and blocks of this power are kept whole
pub record IsExitSearch {K : Type 0} {V : K → Type 0} (means : (k : K) × V k → Meaning) (e : ExitSearch K V)
    : Type 0 where
  pub system : IsSystem means e.system
  pub bounds : HasUnitBounds e.system.on.net.now e.translator.now
  pub some : 1 ≤ e.request.size
  pub buffer : e.request.base + e.request.size ≤ top + 1
  pub whole : HasBlocks e.system.on.net.now e.block
  pub few : e.block ≤ 40
