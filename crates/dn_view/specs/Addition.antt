-- Additions: records in free slots, as many as may be and wherever, and the law on those that give an
-- agent exactly one name more.
use Rattle.std.specs.Prelude.{◌≡◌, ℕ, ◌≤◌, Bool, not, List, slice_get, Some, IsTrue}
use Rattle.dn_net.specs.declared.node.Name.{Name}
use Rattle.dn_net.specs.declared.node.NodeDecl.{NodeDecl}
use Rattle.dn_net.specs.Chain.{Member}
use Rattle.dn_net.specs.Decode.{is_agent_at, top}
use Rattle.dn_net.specs.Legal.{IsLegalNet}
use Rattle.dn_kind.specs.declared.rights.Access.{Access}
use Rattle.dn_kind.specs.declared.rights.Rights.{Rights}
use Rattle.dn_kind.specs.declared.unit_kind.Record.{Record}
use Rattle.dn_kind.specs.Rights.{allows, are_rights, both_rights}
use Rattle.dn_kind.specs.Tables.{AreHeld, Held, ResolvesUnder, allowing}
use Rattle.dn_kind.specs.Ways.{Passes, Slot}
use Rattle.dn_tables.specs.Placement.{Place}
use Rattle.dn_placement.specs.declared.request.Request.{Request}
use Rattle.dn_placement.specs.Exposure.{Gives}
use Rattle.dn_placement.specs.Order.{IsSuited}
use Rattle.dn_placement.specs.Records.{joined_records}
use Rattle.dn_placement.specs.Slots.{AreProper, Slots}

-- the name of an address of a node
abbrev pub name_of_address : ℕ → ℕ → Name
name_of_address node addr = record { node = node; addr = addr }

-- An addition for rights: records in free slots that their units can hold, of which one has the rights
-- and every other has both.
pub record IsAddition (net : List NodeDecl) (slots : Slots) (rights : Rights) (added : Held)
    : Type 0 where
  pub free : (node slot : ℕ) (r : Record) → added node slot ≡ Some r →
      IsTrue (slots.is_free node slot)
  pub held : AreHeld net added
  pub node : ℕ
  pub slot : ℕ
  pub own : Record
  pub is_own : added node slot ≡ Some own
  pub has_rights : own.rights ≡ rights
  pub others : (n q : ℕ) (r : Record) → added n q ≡ Some r → (n ≡ node → q ≡ slot → ⊥) →
      r.rights ≡ both_rights

-- no chain under records from the one name to the other passes through a slot that is owned
abbrev pub PassesNoOwned : List NodeDecl → Held → (ℕ → ℕ → Bool) → Name → Name → Type 0
PassesNoOwned net h has_owner x y = (row : List Slot) → Passes net h x y row →
    (s : Slot) → Member s row → IsTrue (not (has_owner s.unit s.slot))

-- Records that are added give exactly the one name of a request at an address of its agent: with them
-- every agent resolves every address for each access as before, but that the name is added there for
-- the accesses that the rights allow. For none of these it was there before, and no chain to it passes
-- through a slot that is owned.
pub record GivesExactly (net : List NodeDecl) (slots : Slots) (rq : Request) (v : ℕ) (added : Held)
    : Type 0 where
  pub low : v ≤ top
  pub gives : Gives net slots.held (joined_records slots.held added) rq v
  pub new : (access : Access) → IsTrue (allows rq.rights access) →
      ResolvesUnder net (allowing access slots.held) (name_of_address rq.agent v) (name_of_address rq.node rq.base)
      → ⊥
  pub unowned : PassesNoOwned net (joined_records slots.held added) slots.has_owner
      (name_of_address rq.agent v) (name_of_address rq.node rq.base)

-- Where an addition gives an agent exactly the one name of a request, a part of it is an admissible
-- placement at the same address: the refusal of one address is complete.
abbrev pub RefusalIsComplete : Type 0
RefusalIsComplete = (net : List NodeDecl) (slots : Slots) (rq : Request) (v : ℕ) (added : Held) →
    IsLegalNet net → AreProper net slots → IsTrue (is_agent_at (slice_get net rq.agent)) →
    IsTrue (are_rights rq.rights) → rq.size ≡ 1 → IsAddition net slots rq.rights added →
    GivesExactly net slots rq v added → (p : Place) × IsSuited net slots rq (Some v) p
