use Rattle.std.proofs.Common.{◌<◌, ◌≤◌, suc, refl, sym, subst, arith}
use Rattle.dn_kind.specs.Rights.{both_rights}
use Rattle.dn_placement.specs.Records.{first_slot, last_slot, slot_record}
use Rattle.dn_tables.specs.declared.table.SlotUse.{SlotUse}
use Rattle.dn_book.specs.Sets.{one_use_less, put_at}
use Rattle.dn_book.proofs.Changes.{IsUseTurn, changed_none, changed_one, changed_whole, changed_slot, use_turn}
use Rattle.dn_book.proofs.Hops.{behind_last}
use Rattle.dn_book.proofs.Ranges.{so_far_none}
use Rattle.dn_book.proofs.uses.end_slot_uses.Goals as goal

pub loop-slot-init : goal.loop-slot-init
loop-slot-init c = changed_none one_use_less _ c.args.tables.now (so_far_none c.args.unit.now both_rights c.args.hop.now c.first_slot-slot.result c.first_slot-slot.ensures.value)

pub end_use-requires-clause-there : goal.end_use-requires-clause-there
end_use-requires-clause-there c =
    let low : first_slot c.args.unit.now c.args.hop.now ≤ c.loop-slot.slot = let a = c.loop-slot.auto.slot in let v = c.first_slot-slot.ensures.value in omega arith in
    let high : c.loop-slot.slot < suc (last_slot c.args.unit.now c.args.size c.args.hop.now) = let a = c.loop-slot-test.true in let v = c.end_slot-slot-end.ensures.value in omega arith in
    let turn : IsUseTurn c.args.tables.now c.loop-slot.tables c.args.unit.now c.args.size c.args.hop.now c.loop-slot.slot = use_turn one_use_less c.args.tables.now c.loop-slot.tables c.args.unit.now c.args.size c.args.hop.now c.loop-slot.slot c.requires.is_unit c.requires.there low high c.loop-slot.invariant in
    turn.there

pub end_use-requires-clause-used : goal.end_use-requires-clause-used
end_use-requires-clause-used c =
    let low : first_slot c.args.unit.now c.args.hop.now ≤ c.loop-slot.slot = let a = c.loop-slot.auto.slot in let v = c.first_slot-slot.ensures.value in omega arith in
    let high : c.loop-slot.slot < suc (last_slot c.args.unit.now c.args.size c.args.hop.now) = let a = c.loop-slot-test.true in let v = c.end_slot-slot-end.ensures.value in omega arith in
    let turn : IsUseTurn c.args.tables.now c.loop-slot.tables c.args.unit.now c.args.size c.args.hop.now c.loop-slot.slot = use_turn one_use_less c.args.tables.now c.loop-slot.tables c.args.unit.now c.args.size c.args.hop.now c.loop-slot.slot c.requires.is_unit c.requires.there low high c.loop-slot.invariant in
    subst (λ (u : SlotUse). 0 < u.uses) (sym turn.same) (c.requires.used _ turn.is_in)

pub loop-slot-preserved : goal.loop-slot-preserved
loop-slot-preserved c =
    let low : first_slot c.args.unit.now c.args.hop.now ≤ c.loop-slot.slot = let a = c.loop-slot.auto.slot in let v = c.first_slot-slot.ensures.value in omega arith in
    let high : c.loop-slot.slot < suc (last_slot c.args.unit.now c.args.size c.args.hop.now) = let a = c.loop-slot-test.true in let v = c.end_slot-slot-end.ensures.value in omega arith in
    let turn : IsUseTurn c.args.tables.now c.loop-slot.tables c.args.unit.now c.args.size c.args.hop.now c.loop-slot.slot = use_turn one_use_less c.args.tables.now c.loop-slot.tables c.args.unit.now c.args.size c.args.hop.now c.loop-slot.slot c.requires.is_unit c.requires.there low high c.loop-slot.invariant in
    changed_slot one_use_less c.args.tables.now c.loop-slot.tables c.end_use.new.self c.args.unit.now c.args.hop.now c.loop-slot.slot low c.loop-slot.invariant
    (changed_one one_use_less c.loop-slot.tables c.end_use.new.self (put_at c.args.hop.now.unit c.loop-slot.slot (slot_record c.args.unit.now both_rights c.args.hop.now c.loop-slot.slot)) _ c.facts.ensures turn.there refl c.end_use.ensures)

pub returns : goal.returns
returns c =
    changed_whole one_use_less c.args.tables.now c.loop-slot.tables c.args.unit.now c.args.size c.args.hop.now c.loop-slot.slot (behind_last c.args.unit.now c.args.size c.args.hop.now c.first_slot-slot.result c.end_slot-slot-end.result c.loop-slot.slot c.requires.there c.first_slot-slot.ensures.value c.end_slot-slot-end.ensures.value c.loop-slot.auto.slot-end c.loop-slot-test.false) c.loop-slot.invariant
