-- Placements of a request: how its hops lead from the agent to the buffer, and which slots they take.
use Rattle.std.specs.Prelude.{◌≡◌, ℕ, ◌+◌, ◌*◌, ◌%◌, ◌^◌, ◌≤◌, ◌<◌, ◌↔◌, not, List, [], ◌∷◌, length, slice_get, Some, IsTrue}
use Rattle.dn_net.specs.declared.node.Name.{Name}
use Rattle.dn_net.specs.declared.node.NodeDecl.{NodeDecl}
use Rattle.dn_net.specs.declared.node.Unit.{Unit as UnitPart}
use Rattle.dn_net.specs.Decode.{top, unit_at, Resolves, StopsAt}
use Rattle.dn_kind.specs.Rights.{both_rights}
use Rattle.dn_tables.specs.declared.placement.Hop.{Hop}
use Rattle.dn_tables.specs.Placement.{Place}
use Rattle.dn_placement.specs.declared.request.Request.{Request}
use Rattle.dn_placement.specs.Records.{first_slot, last_slot, slot_record}
use Rattle.dn_placement.specs.Slots.{Slots}

-- the name so many addresses on
abbrev pub name_on : ℕ → ℕ → ℕ → Name
name_on node addr i = record { node = node; addr = addr + i }

-- From an address of a node on, the names of a request's size resolve to exactly the buffer and
-- reach no stop; or, where hops follow, each of them reaches the stop of the next hop.
abbrev pub Meets : List NodeDecl → Request → ℕ → ℕ → List Hop → Type 0
Meets net rq node addr [] = (i : ℕ) → i < rq.size →
    ((z : Name) → Resolves net (name_on node addr i) z ↔ (z ≡ name_on rq.node rq.base i))
    × ((z : Name) → StopsAt net (name_on node addr i) z → ⊥)
Meets net rq node addr (hop ∷ hops) = (i : ℕ) → i < rq.size →
    StopsAt net (name_on node addr i) (name_on hop.unit hop.x i)

-- the slot holds the record
abbrev pub IsHolding : Slots → UnitPart → Hop → ℕ → Type 0
IsHolding slots u hop slot = slots.held hop.unit slot ≡ Some (slot_record u both_rights hop slot)

-- a slot that a hop takes is free; or it holds just the record, with both rights, and has no owner
pub data IsUsable (slots : Slots) (u : UnitPart) (hop : Hop) (slot : ℕ) : Type 0 where
  is_free : IsTrue (slots.is_free hop.unit slot) → IsUsable slots u hop slot
  is_shared : IsHolding slots u hop slot → IsTrue (not (slots.has_owner hop.unit slot)) →
      IsUsable slots u hop slot

-- A hop fits this unit for so many addresses: the unit has the port, `x` and `y` agree modulo the page,
-- and both ends lie within.
pub record FitsUnit (u : UnitPart) (size : ℕ) (hop : Hop) : Type 0 where
  pub node : ℕ
  pub is_port : slice_get u.ports hop.port ≡ Some node
  pub agree : hop.x % 2 ^ u.page ≡ hop.y % 2 ^ u.page
  pub within : hop.x + size ≤ u.slots * 2 ^ u.page
  pub reached : hop.y + size ≤ 2 ^ u.reach

-- a hop fits its unit and finds its slots usable, and leads to the hops nearer to memory or to memory
pub record Joins (net : List NodeDecl) (slots : Slots) (rq : Request) (hop : Hop)
    (nearer : List Hop) : Type 0 where
  pub unit : UnitPart
  pub is_unit : unit_at net hop.unit ≡ Some unit
  pub fits : FitsUnit unit rq.size hop
  pub usable : (slot : ℕ) → first_slot unit hop ≤ slot → slot ≤ last_slot unit rq.size hop →
      IsUsable slots unit hop slot
  pub meets : Meets net rq fits.node hop.y nearer

-- each of the hops joins those nearer to memory
abbrev pub Leads : List NodeDecl → Slots → Request → List Hop → Type 0
Leads net slots rq [] = Unit {0}
Leads net slots rq (hop ∷ hops) = Joins net slots rq hop hops × Leads net slots rq hops

-- every slot that the hop takes is free
abbrev pub IsFreeHop : List NodeDecl → Slots → Request → Hop → Type 0
IsFreeHop net slots rq hop = (u : UnitPart) → unit_at net hop.unit ≡ Some u → (slot : ℕ) →
    first_slot u hop ≤ slot → slot ≤ last_slot u rq.size hop →
    IsTrue (slots.is_free hop.unit slot)

-- A placement of a request: the agent's addresses from `v` on meet one to three hops, each leads on
-- to the next and the last to the buffer, and every slot of the own hop is free.
pub record IsPlacement (net : List NodeDecl) (slots : Slots) (rq : Request) (p : Place)
    : Type 0 where
  pub some : 1 ≤ rq.size
  pub fits : p.v + rq.size ≤ top + 1
  pub least : 1 ≤ length p.hops
  pub most : length p.hops ≤ 3
  pub meets : Meets net rq rq.agent p.v p.hops
  pub leads : Leads net slots rq p.hops
  pub own : Hop
  pub is_own : slice_get p.hops p.own ≡ Some own
  pub free : IsFreeHop net slots rq own
