-- What the search looks for and where, and what it asks of that.
use Rattle.std.specs.Prelude.{◌≡◌, ℕ, ◌+◌, ◌-◌, ◌*◌, ◌/◌, ◌%◌, ◌^◌, ◌<◌, ◌≤◌, false, List, [], ◌∷◌, ◌++◌, length, slice_get, Option, Some, None, IsTrue, ◌⊎◌}
use Rattle.dn_net.specs.declared.node.Name.{Name}
use Rattle.dn_net.specs.declared.node.NodeDecl.{NodeDecl}
use Rattle.dn_net.specs.declared.node.Unit.{Unit as UnitPart}
use Rattle.dn_net.specs.Decode.{top, is_agent_at, unit_at, Resolves, StopsAt}
use Rattle.dn_flat.specs.Crowds.{IsAgentStop}
use Rattle.dn_kind.specs.declared.rights.Access.{Access}
use Rattle.dn_kind.specs.Rights.{allows, both_rights}
use Rattle.dn_kind.specs.Tables.{Held, allowing}
use Rattle.dn_placement.specs.declared.request.Request.{Request}
use Rattle.dn_placement.specs.Order.{IsSuited}
use Rattle.dn_placement.specs.Placement.{name_on}
use Rattle.dn_placement.specs.Slots.{Slots}
use Rattle.dn_tables.specs.declared.placement.Hop.{Hop}
use Rattle.dn_tables.specs.Placement.{Place}
use Rattle.dn_view.specs.KeptStops.{IsKeptStop}
use Rattle.dn_place.specs.Blocks.{HasBlocks}

-- a net with the slots of its units, a request, and the address that is asked for, where one is
pub record Sought : Type 0 where
  pub net : List NodeDecl
  pub slots : Slots
  pub request : Request
  pub at : Option ℕ

-- the bounds of a unit: of its page, slots, reach and ports, and its ports are nodes that are there
pub record HasUnitBounds (net : List NodeDecl) (u : UnitPart) : Type 0 where
  pub page : u.page ≤ 40
  pub few : u.slots ≤ 262144
  pub reach : u.reach ≤ 56
  pub ports : length u.ports ≤ 8
  pub there : (port node : ℕ) → slice_get u.ports port ≡ Some node → node < length net

-- each unit keeps its bounds
abbrev pub HaveUnitBounds : List NodeDecl → Type 0
HaveUnitBounds net = (node : ℕ) (u : UnitPart) → unit_at net node ≡ Some u → HasUnitBounds net u

-- a name reaches one stop at most
abbrev pub ReachOneStop : List NodeDecl → Type 0
ReachOneStop net = (x y z : Name) → StopsAt net x y → StopsAt net x z → y ≡ z

-- no other address of an agent reaches the stop of an address at which a placement that is looked for
-- gives the buffer
abbrev pub ReachAlone : Sought → Type 0
ReachAlone s = (q : Place) (i : ℕ) (t w : Name) → IsSuited s.net s.slots s.request s.at q →
    i < s.request.size → StopsAt s.net (name_on s.request.agent q.v i) t →
    IsTrue (is_agent_at (slice_get s.net w.node)) → StopsAt s.net w t →
    w ≡ name_on s.request.agent q.v i

-- where blocks are kept whole, no address beside the buffer in the block of one of its addresses resolves to
-- anything, at the node behind the last hop of a placement that is looked for
abbrev pub GivesWholeBlocks : Sought → Type 0
GivesWholeBlocks s = (q : Place) (block : ℕ) (before : List Hop) (hop : Hop) (u : UnitPart) (node i a : ℕ)
    (z : Name) → IsSuited s.net s.slots s.request s.at q → q.hops ≡ before ++ hop ∷ [] →
    HasBlocks s.net block → unit_at s.net hop.unit ≡ Some u →
    slice_get u.ports hop.port ≡ Some node → i < s.request.size →
    a / 2 ^ block ≡ (hop.y + i) / 2 ^ block → ((j : ℕ) → j < s.request.size → a ≡ hop.y + j → ⊥) →
    Resolves s.net (record { node = node; addr = a }) z → ⊥

-- through a lone hop of a placement that is looked for no address of the agent beside the buffer, whose stop is in a
-- slot of the hop, comes to a name that resolves to anything
abbrev pub ShowsNoneBeside : Sought → Type 0
ShowsNoneBeside s = (q : Place) (hop : Hop) (u : UnitPart) (node i a x : ℕ) (z : Name) →
    IsSuited s.net s.slots s.request s.at q → q.hops ≡ hop ∷ [] → unit_at s.net hop.unit ≡ Some u →
    slice_get u.ports hop.port ≡ Some node → i < s.request.size →
    x / 2 ^ u.page ≡ (hop.x + i) / 2 ^ u.page →
    StopsAt s.net (record { node = s.request.agent; addr = a }) (record { node = hop.unit; addr = x }) →
    ((j : ℕ) → j < s.request.size → a ≡ q.v + j → ⊥) →
    Resolves s.net (record {
      node = node;
      addr = (hop.y / 2 ^ u.page
          + (x / 2 ^ u.page - hop.x / 2 ^ u.page)) * 2 ^ u.page + x % 2 ^ u.page;
    }) z → ⊥

-- an address of another agent than the one that asks comes to the name, in a unit, by the records, for an access that
-- is asked for
abbrev pub IsKeptName : List NodeDecl → Held → Request → Name → Type 0
IsKeptName net h rq t = (access : Access) × IsTrue (allows rq.rights access)
    × IsKeptStop net (allowing access h) rq.agent t

-- the name is the stop of an address of an agent, or another agent comes to it by the records that are in use
abbrev pub IsSeenStop : Sought → Name → Type 0
IsSeenStop s t = IsAgentStop s.net t ⊎ IsKeptName s.net s.slots.held s.request t

-- no name of a hop after the first from the agent's end, in a slot that is free, is one that agents come to so, in a
-- placement that is looked for
abbrev pub LeavesSeenStops : Sought → Type 0
LeavesSeenStops s = (q : Place) (first hop : Hop) (ahead behind : List Hop) (u : UnitPart) (i : ℕ) →
    IsSuited s.net s.slots s.request s.at q → q.hops ≡ first ∷ (ahead ++ (hop ∷ behind)) →
    unit_at s.net hop.unit ≡ Some u → i < s.request.size →
    IsTrue (s.slots.is_free hop.unit ((hop.x + i) / 2 ^ u.page)) →
    IsSeenStop s (name_on hop.unit hop.x i) → ⊥

-- what the search asks
pub record IsSearchReady (s : Sought) : Type 0 where
  pub bounds : HaveUnitBounds s.net
  pub one_stop : ReachOneStop s.net
  pub alone : ReachAlone s
  pub whole : GivesWholeBlocks s
  pub none_beside : ShowsNoneBeside s
  pub leaves : LeavesSeenStops s
  pub few : length s.net ≤ 1024
  pub agent : s.request.agent < length s.net
  pub is_agent : IsTrue (is_agent_at (slice_get s.net s.request.agent))
  pub some : 1 ≤ s.request.size
  pub fits : s.request.base + s.request.size ≤ top + 1

-- how many slots a node has, where it is this unit, or none
abbrev pub slot_count : Option UnitPart → ℕ
slot_count None = 0
slot_count (Some u) = u.slots

-- no slot is free, and none holds a record
abbrev pub no_slots : Slots
no_slots = record { held = λ unit slot. None; is_free = λ unit slot. false; has_owner = λ unit slot. false }

-- nothing is looked for
abbrev pub nothing_sought : Sought
nothing_sought = record {
  net = [];
  slots = no_slots;
  request = record { agent = 0; node = 0; base = 0; size = 0; rights = both_rights };
  at = None;
}
