use Rattle.std.proofs.Common.{◌≡◌, ◌∙◌, ◌<◌, ◌≤◌, suc, subst, rules, arith, Some, true, false, is_err}
use Rattle.dn_base.specs.Outside.{IsCounted}
use Rattle.dn_base.proofs.Counts.{counted_none, counted_then}
use Rattle.dn_kind.specs.Rights.{both_rights}
use Rattle.dn_placement.specs.Records.{first_slot, last_slot, slot_record}
use Rattle.dn_tables.specs.Set.{unit_in}
use Rattle.dn_book.proofs.Frames.{SameFrame}
use Rattle.dn_book.proofs.Hops.{behind_last}
use Rattle.dn_book.proofs.Parts.{clear_begin, clear_end, clear_next, clear_stopped, cleared_frame}
use Rattle.dn_book.proofs.Ranges.{rest_of_hop, slot_there, so_far, so_far_all, so_far_more, so_far_none}
use Rattle.dn_book.proofs.clears.clear_slots.Goals as goal

pub loop-slot-init : goal.loop-slot-init
loop-slot-init g c = record {
  cleared = λ r. clear_begin _ (g.D.Tables.log c.args.device.now) c.args.tables.now (so_far_none c.args.unit.now r c.args.hop.now c.first_slot-slot.result c.first_slot-slot.ensures.value);
  on_device = c.requires.on_device;
  counted = counted_none (g.D.Tables.faults c.args.device.now);
}

pub clear_slot-requires-clause-on_device : goal.clear_slot-requires-clause-on_device
clear_slot-requires-clause-on_device g c = c.loop-slot.invariant.on_device

pub clear_slot-requires-clause-there : goal.clear_slot-requires-clause-there
clear_slot-requires-clause-there g c =
    let high : c.loop-slot.slot < suc (last_slot c.args.unit.now c.args.size c.args.hop.now) = let a = c.loop-slot-test.true in let v = c.end_slot-slot-end.ensures.value in omega arith in
    let frame : SameFrame c.args.tables.now c.loop-slot.tables = cleared_frame _ _ _ c.args.tables.now c.loop-slot.tables (c.loop-slot.invariant.cleared both_rights) in
    let at : unit_in c.loop-slot.tables c.args.hop.now.unit ≡ Some c.args.unit.now = frame.unit c.args.hop.now.unit ∙ c.requires.is_unit in
    slot_there c.loop-slot.tables c.args.unit.now c.args.size c.args.hop.now c.loop-slot.slot at c.requires.there high

pub returns-in_err-clear_slot-clause-cleared : goal.returns-in_err-clear_slot-clause-cleared
returns-in_err-clear_slot-clause-cleared g c r =
    let low : first_slot c.args.unit.now c.args.hop.now ≤ c.loop-slot.slot = let a = c.loop-slot.auto.slot in let v = c.first_slot-slot.ensures.value in omega arith in
    let high : c.loop-slot.slot < suc (last_slot c.args.unit.now c.args.size c.args.hop.now) = let a = c.loop-slot-test.true in let v = c.end_slot-slot-end.ensures.value in omega arith in
    let failed : is_err c.from_residual.result ≡ true = search rules in
    let was : is_err c.clear_slot.result ≡ true = search rules in
    let rest = rest_of_hop c.args.unit.now c.args.size r c.args.hop.now c.loop-slot.slot low high in
    clear_stopped (so_far c.args.unit.now r c.args.hop.now c.loop-slot.slot) _ rest.0 _ (is_err c.clear_slot.result) (is_err c.from_residual.result) _ _ _ _ _ _ rest.1 failed was (c.loop-slot.invariant.cleared r) (c.clear_slot.ensures.cleared (slot_record c.args.unit.now r c.args.hop.now c.loop-slot.slot))

pub loop-slot-preserved : goal.loop-slot-preserved
loop-slot-preserved g c =
    let low : first_slot c.args.unit.now c.args.hop.now ≤ c.loop-slot.slot = let a = c.loop-slot.auto.slot in let v = c.first_slot-slot.ensures.value in omega arith in
    let was : is_err c.clear_slot.result ≡ false = search rules in
    record {
      cleared = λ r. clear_next (so_far c.args.unit.now r c.args.hop.now c.loop-slot.slot) _ _ (is_err c.clear_slot.result) _ _ _ _ _ _ (so_far_more c.args.unit.now r c.args.hop.now c.loop-slot.slot low) was (c.loop-slot.invariant.cleared r) (c.clear_slot.ensures.cleared (slot_record c.args.unit.now r c.args.hop.now c.loop-slot.slot));
      on_device = c.clear_slot.ensures.on_device;
      counted = counted_then _ _ _ _ c.loop-slot.invariant.counted (subst (IsCounted (g.D.Tables.faults c.loop-slot.device) (g.D.Tables.faults c.clear_slot.new.device)) was c.clear_slot.ensures.counted);
    }

pub returns-clause-cleared : goal.returns-clause-cleared
returns-clause-cleared g c r =
    clear_end _ _ _ _ _ _ (so_far_all c.args.unit.now c.args.size r c.args.hop.now c.loop-slot.slot (behind_last c.args.unit.now c.args.size c.args.hop.now c.first_slot-slot.result c.end_slot-slot-end.result c.loop-slot.slot c.requires.there c.first_slot-slot.ensures.value c.end_slot-slot-end.ensures.value c.loop-slot.auto.slot-end c.loop-slot-test.false)) (c.loop-slot.invariant.cleared r)
