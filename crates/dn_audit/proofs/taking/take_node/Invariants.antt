-- The slots so far, and those that are still to come.
use Rattle.std.proofs.Common.{◌≡◌, ◌+◌, ◌-◌, ◌≤◌, ◌++◌, [], slice_index_or}
use Rattle.dn_kind.specs.Kinded.{kinds_of}
use Rattle.dn_image.specs.Image.{width_of}
use Rattle.dn_audit.specs.Records.{held_from, shut_from}
use Rattle.dn_audit.specs.Taking.{IsFilledTo, records_in, image_says}
use Rattle.dn_audit.proofs.taking.take_node.Given as goal

abbrev pub invariant-loop-slot : goal.invariant-loop-slot
invariant-loop-slot g l =
    let kinds = kinds_of (λ k. (goal.UnitKind-dyn g k).meaning k.1) l.image.on.kinds.now in
    let h = records_in (λ k. (goal.UnitKind-dyn g k).meaning k.1) l.image in
    let ws = slice_index_or (image_says (λ k. (goal.UnitKind-dyn g k).meaning k.1) l.image).words l.node [] in
    record {
      filled : IsFilledTo l.image.on.net.now kinds h l.node l.slot l.tables (g.D.Tables.units l.device) (g.D.Tables.words l.device);
      records : l.found.records + held_from (h l.node) l.slot (l.unit.slots - l.slot) ≡ l.initial.found.records + held_from (h l.node) 0 l.unit.slots;
      few : l.found.records ≤ l.initial.found.records + l.slot;
      shut : l.found.shut ++ shut_from l.node (width_of kinds l.unit) ws (h l.node) l.slot (l.unit.slots - l.slot) ≡ l.initial.found.shut ++ shut_from l.node (width_of kinds l.unit) ws (h l.node) 0 l.unit.slots;
    }
