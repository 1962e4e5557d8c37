-- The records that a placement puts into slots.
use Rattle.std.specs.Prelude.{ℕ, suc, ◌+◌, ◌-◌, ◌/◌, ◌^◌, Bool, if◌then◌else◌, ◌&&◌, nat_eq, nat_le, List, [], ◌∷◌, Option, Some, None}
use Rattle.dn_net.specs.declared.node.NodeDecl.{NodeDecl}
use Rattle.dn_net.specs.declared.node.Unit.{Unit as UnitPart}
use Rattle.dn_net.specs.Decode.{unit_at}
use Rattle.dn_kind.specs.declared.rights.Rights.{Rights}
use Rattle.dn_kind.specs.declared.unit_kind.Record.{Record}
use Rattle.dn_kind.specs.Rights.{both_rights}
use Rattle.dn_kind.specs.Tables.{Held}
use Rattle.dn_tables.specs.declared.placement.Hop.{Hop}
use Rattle.dn_tables.specs.Placement.{Place}
use Rattle.dn_placement.specs.declared.request.Request.{Request}

-- the first slot that a hop takes of its unit
abbrev pub first_slot : UnitPart → Hop → ℕ
first_slot u hop = hop.x / 2 ^ u.page

-- the last slot that a hop takes for so many addresses
abbrev pub last_slot : UnitPart → ℕ → Hop → ℕ
last_slot u size hop = (hop.x + size - 1) / 2 ^ u.page

-- the hop takes the slot
abbrev pub is_taken_by : UnitPart → ℕ → Hop → ℕ → Bool
is_taken_by u size hop slot = nat_le (first_slot u hop) slot && nat_le slot (last_slot u size hop)

-- the record that a hop puts into a slot: its port, and one page after the other
abbrev pub slot_record : UnitPart → Rights → Hop → ℕ → Record
slot_record u rights hop slot = record {
  port = hop.port;
  page = hop.y / 2 ^ u.page + (slot - first_slot u hop);
  rights = rights;
}

-- the record of a hop in a slot of a node, where the hop's node is this unit, or none
abbrev pub hop_record_by : Option UnitPart → ℕ → Rights → Hop → ℕ → ℕ → Option Record
hop_record_by None size rights hop node slot = None
hop_record_by (Some u) size rights hop node slot =
    if nat_eq node hop.unit && is_taken_by u size hop slot
    then Some (slot_record u rights hop slot)
    else None

-- the record of a hop in a slot, where the hop takes it
abbrev pub hop_record : List NodeDecl → ℕ → Rights → Hop → Held
hop_record net size rights hop node slot =
    hop_record_by (unit_at net hop.unit) size rights hop node slot

-- the rights of the records of a hop: those of the grant in its own hop, and both in every other
abbrev pub hop_rights : Rights → ℕ → ℕ → Rights
hop_rights rights own place = if nat_eq place own then rights else both_rights

-- the first record, and where there is none the second
abbrev pub or_record : Option Record → Option Record → Option Record
or_record None s = s
or_record (Some r) s = Some r

-- the records of hops of which the first stands at a place, counted from the agent's end
abbrev pub hops_records : List NodeDecl → ℕ → Rights → ℕ → ℕ → List Hop → Held
hops_records net size rights own place [] node slot = None
hops_records net size rights own place (hop ∷ hops) node slot =
    or_record (hop_record net size (hop_rights rights own place) hop node slot)
    (hops_records net size rights own (suc place) hops node slot)

-- the records of a placement
abbrev pub placed_records : List NodeDecl → Request → Place → Held
placed_records net rq p = hops_records net rq.size rq.rights p.own 0 p.hops

-- the records of the first, and in slots where it has none those of the second
abbrev pub joined_records : Held → Held → Held
joined_records h added node slot = or_record (h node slot) (added node slot)
