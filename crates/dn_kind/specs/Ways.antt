-- The way of a name through units, where no name forks on its way to one.
use Rattle.std.specs.Prelude.{◌≡◌, ℕ, zero, suc, ◌+◌, ◌/◌, ◌^◌, ◌⊎◌, List, [], ◌∷◌, ◌++◌, Option, Some, None, IsTrue}
use Rattle.std.specs.List.{list_all}
use Rattle.dn_net.specs.declared.node.Name.{Name}
use Rattle.dn_net.specs.declared.node.NodeDecl.{NodeDecl}
use Rattle.dn_net.specs.declared.node.Unit.{Unit as UnitPart}
use Rattle.dn_net.specs.Chain.{IsChain}
use Rattle.dn_net.specs.Decode.{is_accepted, is_formed, is_stop, unit_at}
use Rattle.dn_net.specs.Legal.{IsLegalNet}
pub use Rattle.dn_net.specs.UnitRules.{NoFork}
use Rattle.dn_kind.specs.Tables.{Held, StepUnder}

-- a slot of a unit, by the number of the unit's node
pub record Slot : Type 0 where
  pub unit : ℕ
  pub slot : ℕ

-- the slot in which a name stands, where its node is this unit
abbrev pub slot_in : Name → Option UnitPart → List Slot
slot_in x None = []
slot_in x (Some u) = record { unit = x.node; slot = x.addr / 2 ^ u.page } ∷ []

-- a chain of so many steps under records goes on through the slots, in this order
abbrev pub PassesIn : List NodeDecl → Held → ℕ → Name → Name → List Slot → Type 0
PassesIn net h zero x y slots = (x ≡ y) × (slots ≡ [])
PassesIn net h (suc k) x y slots =
    (z : Name) × (rest : List Slot) × StepUnder net h x z
    × (slots ≡ slot_in x (unit_at net x.node) ++ rest) × PassesIn net h k z y rest

-- a chain under records goes on through the slots, in this order
abbrev pub Passes : List NodeDecl → Held → Name → Name → List Slot → Type 0
Passes net h x y slots = (k : ℕ) × PassesIn net h k x y slots

-- a name that reaches a unit has one way to it: of two chains from the name, of which the first ends
-- in a unit, one goes on where the other ends
abbrev pub HasOneWay : List NodeDecl → Held → Type 0
HasOneWay net h = (x u y : Name) (j k : ℕ) → IsTrue (is_stop net u) →
    IsChain (StepUnder net h) j x u → IsChain (StepUnder net h) k x y →
    ((d : ℕ) × (j ≡ k + d) × IsChain (StepUnder net h) d y u)
    ⊎ ((d : ℕ) × (k ≡ j + d) × IsChain (StepUnder net h) d u y)

-- a name has one row of slots: to whatever accepted names it comes, and by whatever chains, it goes
-- through the same slots in the same order
abbrev pub HasOneRow : List NodeDecl → Held → Type 0
HasOneRow net h = (x y z : Name) (row other : List Slot) →
    IsTrue (is_accepted net y) → IsTrue (is_accepted net z) →
    Passes net h x y row → Passes net h x z other → row ≡ other

-- Where no name forks on its way to a unit, each has one way to it under records.
abbrev pub OneWayToUnit : Type 0
OneWayToUnit = (net : List NodeDecl) (h : Held) → NoFork net → HasOneWay net h

-- So it is in a legal net.
abbrev pub LegalOneWayToUnit : Type 0
LegalOneWayToUnit = (net : List NodeDecl) (h : Held) → IsLegalNet net → HasOneWay net h

-- Each chain goes on through a row of slots, and each row of slots that is gone through is a chain.
abbrev pub ChainPassesSlots : Type 0
ChainPassesSlots = (net : List NodeDecl) (h : Held) (k : ℕ) (x y : Name) →
    (IsChain (StepUnder net h) k x y → (slots : List Slot) × PassesIn net h k x y slots)
    × ((slots : List Slot) → PassesIn net h k x y slots → IsChain (StepUnder net h) k x y)

-- Where no name forks on its way to a unit, and each node is formed, each name has one row of slots.
abbrev pub OneRowOfSlots : Type 0
OneRowOfSlots = (net : List NodeDecl) (h : Held) → IsTrue (list_all is_formed net) → NoFork net →
    HasOneRow net h

-- So it is in a legal net.
abbrev pub LegalOneRowOfSlots : Type 0
LegalOneRowOfSlots = (net : List NodeDecl) (h : Held) → IsLegalNet net → HasOneRow net h
