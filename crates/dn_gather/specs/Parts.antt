-- Records in different slots of one unit, in two parts, and what names resolve to under them.
use Rattle.std.specs.Prelude.{◌≡◌, ℕ, ◌/◌, ◌^◌, ◌⊎◌, ◌↔◌, List, Some, None, IsTrue}
use Rattle.dn_net.specs.declared.node.Name.{Name}
use Rattle.dn_net.specs.declared.node.NodeDecl.{NodeDecl}
use Rattle.dn_net.specs.declared.node.Unit.{Unit as UnitPart}
use Rattle.dn_net.specs.Chain.{Reaches}
use Rattle.dn_net.specs.Decode.{is_stop, unit_at, Step}
use Rattle.dn_net.specs.Legal.{IsLegalNet}
use Rattle.dn_kind.specs.declared.unit_kind.Record.{Record}
use Rattle.dn_kind.specs.Tables.{AreHeld, Extends, Held, ResolvesUnder}

-- Records are in two parts: each is in the first or in the second, and one outside of the unit is in both.
pub record AreParts (unit : ℕ) (first second all : Held) : Type 0 where
  pub first_stands : Extends first all
  pub second_stands : Extends second all
  pub either : (node slot : ℕ) (r : Record) → all node slot ≡ Some r →
      (first node slot ≡ Some r) ⊎ (second node slot ≡ Some r)
  pub elsewhere : (node slot : ℕ) (r : Record) → (node ≡ unit → ⊥) → all node slot ≡ Some r →
      (first node slot ≡ Some r) × (second node slot ≡ Some r)

-- Under all records a name resolves to what it resolves to under the first part or under the second: a chain passes
-- the unit once at most.
abbrev pub PiecesGiveTheirOwn : Type 0
PiecesGiveTheirOwn = (net : List NodeDecl) (unit : ℕ) (first second all : Held) → IsLegalNet net →
    AreHeld net all → AreParts unit first second all → (x z : Name) →
    ResolvesUnder net all x z ↔ (ResolvesUnder net first x z ⊎ ResolvesUnder net second x z)

-- the way of the name in the net leads into a slot of the unit
pub record LeadsInto (net : List NodeDecl) (x : Name) (unit slot : ℕ) : Type 0 where
  pub stop : Name
  pub is_stop : IsTrue (is_stop net stop)
  pub reaches : Reaches (Step net) x stop
  pub in_unit : stop.node ≡ unit
  pub part : UnitPart
  pub is_part : unit_at net unit ≡ Some part
  pub in_slot : stop.addr / 2 ^ part.page ≡ slot

-- A name whose way leads into a slot that holds no record resolves to nothing.
abbrev pub EmptySlotGivesNothing : Type 0
EmptySlotGivesNothing = (net : List NodeDecl) (h : Held) → IsLegalNet net → (x z : Name)
    (unit slot : ℕ) → LeadsInto net x unit slot → h unit slot ≡ None → ResolvesUnder net h x z → ⊥
