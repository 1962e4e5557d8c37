use Rattle.std.proofs.Common.{◌≡◌, ◌<◌, ◌≤◌, suc, refl, sym, subst, arith, IsSome, None}
use Rattle.dn_kind.specs.Rights.{both_rights}
use Rattle.dn_placement.specs.Records.{first_slot, last_slot, slot_record}
use Rattle.dn_tables.specs.declared.table.SlotUse.{SlotUse}
use Rattle.dn_book.specs.Sets.{one_use_more, put_at}
use Rattle.dn_book.proofs.Changes.{IsUseTurn, changed_none, changed_one, changed_whole, changed_slot, use_turn}
use Rattle.dn_book.proofs.Hops.{behind_last}
use Rattle.dn_book.proofs.Ranges.{so_far_none}
use Rattle.dn_book.proofs.uses.add_slot_uses.Goals as goal

pub loop-slot-init : goal.loop-slot-init
loop-slot-init c = changed_none (one_use_more c.args.owner) _ c.args.tables.now (so_far_none c.args.unit.now both_rights c.args.hop.now c.first_slot-slot.result c.first_slot-slot.ensures.value)

pub add_use-requires-clause-there : goal.add_use-requires-clause-there
add_use-requires-clause-there c =
    let low : first_slot c.args.unit.now c.args.hop.now ≤ c.loop-slot.slot = let a = c.loop-slot.auto.slot in let v = c.first_slot-slot.ensures.value in omega arith in
    let high : c.loop-slot.slot < suc (last_slot c.args.unit.now c.args.size c.args.hop.now) = let a = c.loop-slot-test.true in let v = c.end_slot-slot-end.ensures.value in omega arith in
    let turn : IsUseTurn c.args.tables.now c.loop-slot.tables c.args.unit.now c.args.size c.args.hop.now c.loop-slot.slot = use_turn (one_use_more c.args.owner) c.args.tables.now c.loop-slot.tables c.args.unit.now c.args.size c.args.hop.now c.loop-slot.slot c.requires.is_unit c.requires.there low high c.loop-slot.invariant in
    turn.there

pub add_use-requires-clause-few : goal.add_use-requires-clause-few
add_use-requires-clause-few c =
    let low : first_slot c.args.unit.now c.args.hop.now ≤ c.loop-slot.slot = let a = c.loop-slot.auto.slot in let v = c.first_slot-slot.ensures.value in omega arith in
    let high : c.loop-slot.slot < suc (last_slot c.args.unit.now c.args.size c.args.hop.now) = let a = c.loop-slot-test.true in let v = c.end_slot-slot-end.ensures.value in omega arith in
    let turn : IsUseTurn c.args.tables.now c.loop-slot.tables c.args.unit.now c.args.size c.args.hop.now c.loop-slot.slot = use_turn (one_use_more c.args.owner) c.args.tables.now c.loop-slot.tables c.args.unit.now c.args.size c.args.hop.now c.loop-slot.slot c.requires.is_unit c.requires.there low high c.loop-slot.invariant in
    subst (λ (u : SlotUse). u.uses < 4096) (sym turn.same) (c.requires.may _ turn.is_in).few

pub add_use-requires-clause-unowned : goal.add_use-requires-clause-unowned
add_use-requires-clause-unowned c =
    let low : first_slot c.args.unit.now c.args.hop.now ≤ c.loop-slot.slot = let a = c.loop-slot.auto.slot in let v = c.first_slot-slot.ensures.value in omega arith in
    let high : c.loop-slot.slot < suc (last_slot c.args.unit.now c.args.size c.args.hop.now) = let a = c.loop-slot-test.true in let v = c.end_slot-slot-end.ensures.value in omega arith in
    let turn : IsUseTurn c.args.tables.now c.loop-slot.tables c.args.unit.now c.args.size c.args.hop.now c.loop-slot.slot = use_turn (one_use_more c.args.owner) c.args.tables.now c.loop-slot.tables c.args.unit.now c.args.size c.args.hop.now c.loop-slot.slot c.requires.is_unit c.requires.there low high c.loop-slot.invariant in
    subst (λ (u : SlotUse). u.owner ≡ None) (sym turn.same) (c.requires.may _ turn.is_in).unowned

pub add_use-requires-clause-alone : goal.add_use-requires-clause-alone
add_use-requires-clause-alone c =
    let low : first_slot c.args.unit.now c.args.hop.now ≤ c.loop-slot.slot = let a = c.loop-slot.auto.slot in let v = c.first_slot-slot.ensures.value in omega arith in
    let high : c.loop-slot.slot < suc (last_slot c.args.unit.now c.args.size c.args.hop.now) = let a = c.loop-slot-test.true in let v = c.end_slot-slot-end.ensures.value in omega arith in
    let turn : IsUseTurn c.args.tables.now c.loop-slot.tables c.args.unit.now c.args.size c.args.hop.now c.loop-slot.slot = use_turn (one_use_more c.args.owner) c.args.tables.now c.loop-slot.tables c.args.unit.now c.args.size c.args.hop.now c.loop-slot.slot c.requires.is_unit c.requires.there low high c.loop-slot.invariant in
    subst (λ (u : SlotUse). IsSome c.args.owner → u.uses ≡ 0) (sym turn.same) (c.requires.may _ turn.is_in).alone

pub loop-slot-preserved : goal.loop-slot-preserved
loop-slot-preserved c =
    let low : first_slot c.args.unit.now c.args.hop.now ≤ c.loop-slot.slot = let a = c.loop-slot.auto.slot in let v = c.first_slot-slot.ensures.value in omega arith in
    let high : c.loop-slot.slot < suc (last_slot c.args.unit.now c.args.size c.args.hop.now) = let a = c.loop-slot-test.true in let v = c.end_slot-slot-end.ensures.value in omega arith in
    let turn : IsUseTurn c.args.tables.now c.loop-slot.tables c.args.unit.now c.args.size c.args.hop.now c.loop-slot.slot = use_turn (one_use_more c.args.owner) c.args.tables.now c.loop-slot.tables c.args.unit.now c.args.size c.args.hop.now c.loop-slot.slot c.requires.is_unit c.requires.there low high c.loop-slot.invariant in
    changed_slot (one_use_more c.args.owner) c.args.tables.now c.loop-slot.tables c.add_use.new.self c.args.unit.now c.args.hop.now c.loop-slot.slot low c.loop-slot.invariant
    (changed_one (one_use_more c.args.owner) c.loop-slot.tables c.add_use.new.self (put_at c.args.hop.now.unit c.loop-slot.slot (slot_record c.args.unit.now both_rights c.args.hop.now c.loop-slot.slot)) _ c.facts.ensures turn.there refl c.add_use.ensures)

pub returns : goal.returns
returns c =
    changed_whole (one_use_more c.args.owner) c.args.tables.now c.loop-slot.tables c.args.unit.now c.args.size c.args.hop.now c.loop-slot.slot (behind_last c.args.unit.now c.args.size c.args.hop.now c.first_slot-slot.result c.end_slot-slot-end.result c.loop-slot.slot c.requires.there c.first_slot-slot.ensures.value c.end_slot-slot-end.ensures.value c.loop-slot.auto.slot-end c.loop-slot-test.false) c.loop-slot.invariant
