-- What nodes reach, level by level, and the accepted names to which they come by it.
use Rattle.std.specs.Prelude.{◌≡◌, ℕ, ◌+◌, ◌<◌, ◌≤◌, ◌↔◌, Bool, true, false, ◌||◌, nat_eq, List, [], length, slice_get, slice_index_or, Option, Some, None, IsTrue}
use Rattle.std.specs.List.{list_all, list_any}
use Rattle.dn_interval.specs.declared.row.End.{End}
use Rattle.dn_interval.specs.declared.row.Row.{Row}
use Rattle.dn_interval.specs.declared.span.TheConstants.{TOP}
use Rattle.dn_interval.specs.Rows.{ends_within, further_end}
use Rattle.dn_interval.specs.Strands.{rows_give}
use Rattle.dn_interval.specs.Onward.{gives_by}
use Rattle.dn_net.specs.declared.node.NodeDecl.{NodeDecl}
use Rattle.dn_net.specs.declared.node.Unit.{Unit as UnitPart}
use Rattle.dn_net.specs.Chain.{ReachesWithin}
use Rattle.dn_net.specs.Decode.{Step, is_agent_at, step_limit, unit_at}
use Rattle.dn_walk.specs.Ends.{name_of_end}
use Rattle.dn_flat.specs.declared.crowds.UnitSpan.{UnitSpan}
use Rattle.dn_flat.specs.declared.levels.Levels.{Levels}
use Rattle.dn_flat.specs.declared.reach.Reach.{Reach}
use Rattle.dn_flat.specs.declared.seers.Seers.{Seers}
use Rattle.dn_flat.specs.Crowds.{HoldAlongAll, IsAgentStop, IsCrowded}
use Rattle.dn_flat.specs.Onward.{has_rows, levels_lead}
use Rattle.dn_flat.specs.Stages.{AreReaches, StageRows}
use Rattle.dn_flat.specs.Views.{ResolvesFrom, StopsFrom}

-- one of the levels gives the name to the address
abbrev pub levels_give : List (List Row) → ℕ → End → Bool
levels_give levels a y = list_any (λ rows. rows_give rows a y) levels

-- the address of the node reaches the name
abbrev pub ReachesFrom : List NodeDecl → ℕ → ℕ → End → Type 0
ReachesFrom net node a y = ReachesWithin (Step net) step_limit (record { node = node; addr = a }) (name_of_end y)

-- the levels give to each address of the node names that it reaches, and among them each accepted one
pub record AreLevels (net : List NodeDecl) (node : ℕ) (levels : List (List Row)) : Type 0 where
  pub reached : (a : ℕ) (y : End) → a ≤ TOP → IsTrue (levels_give levels a y) → ReachesFrom net node a y
  pub accepted : (a : ℕ) (y : End) → a ≤ TOP → ResolvesFrom net node a y → IsTrue (levels_give levels a y)

-- the layers give to each address of the node exactly its stops
abbrev pub AreStops : List NodeDecl → ℕ → List (List Row) → Type 0
AreStops net node layers = (a : ℕ) (y : End) → a ≤ TOP → IsTrue (levels_give layers a y) ↔ StopsFrom net node a y

-- the node is listed
abbrev pub is_among : ℕ → List ℕ → Bool
is_among node nodes = list_any (λ other. nat_eq other node) nodes

-- they do, and the layers of stops give to each address of the node its stops, the units of which are
-- listed
pub record IsLevels (net : List NodeDecl) (node : ℕ) (levels : Levels) : Type 0 where
  pub reached : AreLevels net node levels.reached
  pub stops : AreStops net node levels.stops
  -- each name of a row is in a node that is there
  pub stops_within : IsTrue (list_all (λ rows. ends_within (length net) rows) levels.stops)
  pub units : (a : ℕ) (y : End) → a ≤ TOP → levels_give levels.stops a y ≡ true →
      is_among y.node levels.units ≡ true

-- there are such levels for each node below this one
pub record AreLevelsBelow (net : List NodeDecl) (node : ℕ) (nodes : List Levels) : Type 0 where
  pub every : length nodes ≡ node
  pub each : (m : ℕ) (levels : Levels) → slice_get nodes m ≡ Some levels → IsLevels net m levels

-- the layers of the stops of a node; of one that is not there they are none
abbrev pub stops_in : Option Levels → List (List Row)
stops_in None = []
stops_in (Some levels) = levels.stops

-- the units of the stops of a node; of one that is not there they are none
abbrev pub units_in : Option Levels → List ℕ
units_in None = []
units_in (Some levels) = levels.units

-- the node leads to units
abbrev pub has_stops : List Levels → ℕ → Bool
has_stops nodes node = list_any has_rows (stops_in (slice_get nodes node))

-- the unit, if it is one, has a port whose node leads to units
abbrev pub leads_to_units : List Levels → Option UnitPart → Bool
leads_to_units nodes None = false
leads_to_units nodes (Some u) = list_any (has_stops nodes) u.ports

-- the agent is in the list of the unit
abbrev pub is_listed_for : List (List ℕ) → ℕ → ℕ → Bool
is_listed_for by_unit unit agent = is_among agent (slice_index_or by_unit unit [])

-- An agent that sees names of some units is, for each of these that is there, in its list or in the last one; and it is
-- in the last one where one of them leads on.
pub record IsAgentListed (leads : List Bool) (by_unit : List (List ℕ)) (onward : List ℕ) (agent : ℕ)
    (units : List ℕ) : Type 0 where
  pub each : (unit : ℕ) → unit < length by_unit → is_among unit units ≡ true →
      (is_among agent onward || is_listed_for by_unit unit agent) ≡ true
  pub leading : (unit : ℕ) → is_among unit units ≡ true → slice_index_or leads unit false ≡ true →
      is_among agent onward ≡ true

-- so is each agent below this node, by the units of its stops; and there is a list for each node
pub record AreListed (net : List NodeDecl) (nodes : List Levels) (node : ℕ) (leads : List Bool)
    (by_unit : List (List ℕ)) (onward : List ℕ) : Type 0 where
  pub every : length by_unit ≡ length net
  pub each : (agent : ℕ) → agent < node → IsTrue (is_agent_at (slice_get net agent)) →
      IsAgentListed leads by_unit onward agent (units_in (slice_get nodes agent))

-- it is told of each node whether it is a unit that leads to units, and each agent is in the lists for the units whose
-- names it sees
pub record AreSeers (net : List NodeDecl) (nodes : List Levels) (seers : Seers) : Type 0 where
  pub leads : (n : ℕ) → slice_index_or seers.leads n false ≡ leads_to_units nodes (unit_at net n)
  pub listed : AreListed net nodes (length net) seers.leads seers.by_unit seers.onward

-- what nodes reach, what they come to in one step, names in units that two addresses of agents reach,
-- or one, and lists that have the agents that see names of units
pub record FlatsView : Type 0 where
  pub nodes : List Levels
  pub stage : StageRows
  pub crowds : List UnitSpan
  pub agent_stops : List UnitSpan
  pub seers : Seers

-- it is what the nodes of the net reach, and what they come to, and two addresses of agents reach the names,
-- or one does, and each agent that sees names of units is in the lists
pub record AreFlats (net : List NodeDecl) (flats : FlatsView) : Type 0 where
  pub every : length flats.nodes ≡ length net
  pub each : (node : ℕ) (levels : Levels) → slice_get flats.nodes node ≡ Some levels → IsLevels net node levels
  pub steps : AreReaches net 1 flats.stage.nodes
  pub crowded : HoldAlongAll (IsCrowded net) flats.crowds
  pub stopped : HoldAlongAll (IsAgentStop net) flats.agent_stops
  pub seers : AreSeers net flats.nodes flats.seers

-- the levels of what a node reaches; of one that is not there they are none
abbrev pub reached_of : Option Levels → List (List Row)
reached_of None = []
reached_of (Some levels) = levels.reached

-- a name that one of the levels gives to the address goes on to the accepted name, by what its node accepts
abbrev pub levels_show : List Reach → List (List Row) → ℕ → End → Bool
levels_show nodes levels a z = levels_lead (gives_by (λ (r : Reach). r.done.accepts) nodes) levels a z

-- the address of the node comes to the accepted name; no search unfolds it
unfoldable pub shows : FlatsView → ℕ → ℕ → End → Bool
shows flats node a z = levels_show flats.stage.nodes (reached_of (slice_get flats.nodes node)) a z

-- the name is one of so many from one on
abbrev pub IsNear : End → ℕ → End → Type 0
IsNear first size z = (i : ℕ) × (i < size) × (z ≡ further_end i first)

-- the address of the node resolves to the name, which is one of them
abbrev pub NearFrom : List NodeDecl → ℕ → End → ℕ → ℕ → End → Type 0
NearFrom net node first size a z = ResolvesFrom net node a z × IsNear first size z

-- the address lies in a stretch of so many addresses of the node, and has the name of its place in as many names from one
-- on: each address of the stretch resolves to the name of its place, and to no other
pub record ResolvesWhole (net : List NodeDecl) (node : ℕ) (first : End) (size a : ℕ) (z : End) : Type 0 where
  -- the first address of the stretch, and the place in it
  pub v : ℕ
  pub i : ℕ
  pub below : i < size
  pub within : v + size ≤ TOP + 1
  pub from : a ≡ v + i
  pub to : z ≡ further_end i first
  pub each : (j : ℕ) (w : End) → j < size → ResolvesFrom net node (v + j) w ↔ (further_end j first ≡ w)

-- what they tell of each address of a node is what the address resolves to, and its stops
pub record FlatsTellNames (net : List NodeDecl) (flats : FlatsView) : Type 0 where
  pub accepted : (node a : ℕ) (z : End) → node < length net → a ≤ TOP →
      (shows flats node a z ≡ true) ↔ ResolvesFrom net node a z
  pub stopped : (node a : ℕ) (z : End) → node < length net → a ≤ TOP →
      (levels_give (stops_in (slice_get flats.nodes node)) a z ≡ true) ↔ StopsFrom net node a z

-- So it is of what the nodes of any net reach.
abbrev pub NodesReachTheirNames : Type 0
NodesReachTheirNames = (net : List NodeDecl) (flats : FlatsView) → AreFlats net flats → FlatsTellNames net flats
