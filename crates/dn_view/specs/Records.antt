-- Which records a pass through units goes by.
use Rattle.std.specs.Prelude.{◌≡◌, ℕ, ◌≤◌, List, Option, Some, None, IfSome, IsTrue}
use Rattle.std.specs.List.{All}
use Rattle.dn_net.specs.declared.node.NodeDecl.{NodeDecl}
use Rattle.dn_net.specs.declared.node.Unit.{Unit as UnitPart}
use Rattle.dn_net.specs.Decode.{unit_at}
use Rattle.dn_kind.specs.declared.unit_kind.Record.{Record}
use Rattle.dn_kind.specs.Rights.{are_rights}
use Rattle.dn_kind.specs.Tables.{Held}
use Rattle.dn_tables.specs.declared.placement.Hop.{Hop}
use Rattle.dn_tables.specs.Placement.{Place}
use Rattle.dn_placement.specs.declared.request.Request.{Request}
use Rattle.dn_placement.specs.Placement.{FitsUnit}
use Rattle.dn_placement.specs.Records.{joined_records, placed_records}
use Rattle.dn_view.specs.declared.records.Records.{Records}
use Rattle.dn_view.specs.declared.records.Records.TheVariants.{Kept, Fresh, Joined}

-- the second record, where there is no first
abbrev pub fresh_record : Option Record → Option Record → Option Record
fresh_record None s = s
fresh_record (Some r) s = None

-- the added records in the slots that hold none
abbrev pub fresh_records : Held → Held → Held
fresh_records h added node slot = fresh_record (h node slot) (added node slot)

-- the records that are taken: those that are held; those that a placement adds in slots that hold
-- none; or both
abbrev pub records_taken : List NodeDecl → Held → Records → Held
records_taken net h Kept = h
records_taken net h (Fresh rq p) = fresh_records h (placed_records net rq.now p.now)
records_taken net h (Joined rq p) = joined_records h (placed_records net rq.now p.now)

-- no slot of the node from this one on holds a record
abbrev pub HoldsBelow : Held → ℕ → ℕ → Type 0
HoldsBelow h node end = (slot : ℕ) → end ≤ slot → h node slot ≡ None

-- the node, if it is a unit, holds no record
abbrev pub HoldsNone : List NodeDecl → Held → ℕ → Type 0
HoldsNone net h node = IfSome (unit_at net node) (λ u. (slot : ℕ) → h node slot ≡ None)

-- a hop fits the unit that its node is, for so many addresses
pub record IsFitted (net : List NodeDecl) (size : ℕ) (hop : Hop) : Type 0 where
  pub unit : UnitPart
  pub is_unit : unit_at net hop.unit ≡ Some unit
  pub fits : FitsUnit unit size hop

-- the hops of a placement fit their units, whose slots can hold the request's rights
pub record AreFitted (net : List NodeDecl) (rq : Request) (p : Place) : Type 0 where
  pub some : 1 ≤ rq.size
  pub rights : IsTrue (are_rights rq.rights)
  pub hops : All (IsFitted net rq.size) p.hops

-- the hops of the placement whose records are taken, where one is
abbrev pub IsFitting : List NodeDecl → Records → Type 0
IsFitting net Kept = Unit {0}
IsFitting net (Fresh rq p) = AreFitted net rq.now p.now
IsFitting net (Joined rq p) = AreFitted net rq.now p.now
