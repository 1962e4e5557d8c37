-- How many slots hops take.
use Rattle.std.proofs.Common.{◌≡◌, ◌∙◌, refl, sym, ap, ℕ, zero, suc, ◌-◌, List, length, Option, Some, None}
use Rattle.dn_net.specs.declared.node.NodeDecl.{NodeDecl}
use Rattle.dn_net.specs.declared.node.Unit.{Unit as UnitPart}
use Rattle.dn_net.specs.Decode.{unit_at}
use Rattle.dn_kind.specs.declared.rights.Rights.{Rights}
use Rattle.dn_kind.specs.Rights.{both_rights}
use Rattle.dn_tables.specs.declared.placement.Hop.{Hop}
use Rattle.dn_placement.specs.Records.{first_slot, last_slot}
use Rattle.dn_book.specs.Writes.{hop_slots, hop_slots_by, slots_from}
use Rattle.dn_queue.specs.Room.{slots_of_hop}

slots_length : (u : UnitPart) (r : Rights) (hop : Hop) (slot count : ℕ) → length (slots_from u r hop slot count) ≡ count
slots_length u r hop slot zero = refl
slots_length u r hop slot (suc count) = ap suc (slots_length u r hop (suc slot) count)

-- a hop takes as many slots whatever its rights
pub hop_length : (net : List NodeDecl) (size : ℕ) (r : Rights) (hop : Hop) → length (hop_slots net size r hop) ≡ slots_of_hop net size hop
hop_length net size r hop = by (unit_at net hop.unit)
  where
    by : (o : Option UnitPart) → length (hop_slots_by o size r hop) ≡ length (hop_slots_by o size both_rights hop)
    by None = refl
    by (Some u) = slots_length u r hop _ _ ∙ sym (slots_length u both_rights hop _ _)

-- a hop takes the slots of its unit from its first to its last
pub unit_slots : (net : List NodeDecl) (size : ℕ) (hop : Hop) (u : UnitPart) → unit_at net hop.unit ≡ Some u → slots_of_hop net size hop ≡ suc (last_slot u size hop) - first_slot u hop
unit_slots net size hop u e = ap (λ o. length (hop_slots_by o size both_rights hop)) e ∙ slots_length u both_rights hop _ _
