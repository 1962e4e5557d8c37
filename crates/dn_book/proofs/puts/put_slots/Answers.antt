use Rattle.std.proofs.Common.{◌≡◌, ◌<◌, ◌≤◌, suc, sym, subst, rules, arith, List, [], ◌∷◌, true, false, is_err}
use Rattle.dn_base.proofs.Counts.{counted_none, counted_then}
use Rattle.dn_base.specs.Outside.{IsCounted}
use Rattle.dn_kind.specs.Kind.{Meaning}
use Rattle.dn_kind.specs.Kinded.{kinds_of}
use Rattle.dn_tables.specs.Set.{IsPackableIn}
use Rattle.dn_tables.proofs.Slots.{all_of_map}
use Rattle.dn_placement.specs.Records.{first_slot, last_slot}
use Rattle.dn_book.specs.Sets.{AreOpen, ArePut, put_at}
use Rattle.dn_book.proofs.Parts.{put_begin, put_end, put_next, put_stopped}
use Rattle.dn_book.proofs.Hops.{behind_last}
use Rattle.dn_book.proofs.Ranges.{HopPuts, IsTurn, hop_turn, rest_of_hop, so_far, so_far_all, so_far_more, so_far_none}
use Rattle.dn_book.proofs.puts.put_slots.Goals as goal

pub put_slot-requires : goal.put_slot-requires
put_slot-requires g c =
    let kinds : List Meaning = kinds_of (λ k. (goal.UnitKind-dyn g k).meaning k.1) c.args.kinds.now in
    let hop : HopPuts kinds c.args.tables.now c.args.unit.now c.args.size c.args.rights c.args.hop.now = record {
      lawful = all_of_map _ c.args.kinds.now.list.items c.requires.lawful;
      is_set = c.facts.ensures;
      fits = c.requires.fits;
      at = c.requires.is_unit;
      shaped = c.requires.shaped;
      fit = c.requires.there;
      rights = c.requires.rights;
      opened = c.requires.opened;
    } in
    let low : first_slot c.args.unit.now c.args.hop.now ≤ c.loop-slot.slot = let a = c.loop-slot.auto.slot in let v = c.first_slot-slot.ensures.value in omega arith in
    let high : c.loop-slot.slot < suc (last_slot c.args.unit.now c.args.size c.args.hop.now) = let a = c.loop-slot-test.true in let v = c.end_slot-slot-end.ensures.value in omega arith in
    let turn : IsTurn kinds c.loop-slot.tables _ = hop_turn kinds c.args.tables.now c.loop-slot.tables c.args.unit.now c.args.size c.args.rights c.args.hop.now c.loop-slot.slot _ _ hop low high c.loop-slot.invariant.put in
    record {
      lawful = c.requires.lawful;
      fits = turn.fits;
      on_device = c.loop-slot.invariant.on_device;
      there = turn.there;
      opened = subst (λ r. AreOpen c.loop-slot.tables (put_at c.args.hop.now.unit c.loop-slot.slot r ∷ [])) (sym c.slot_record-holds.ensures) turn.opened;
      packable = subst (IsPackableIn kinds c.loop-slot.tables c.args.hop.now.unit) (sym c.slot_record-holds.ensures) turn.packable;
    }

pub returns-in_err-put_slot-clause-put : goal.returns-in_err-put_slot-clause-put
returns-in_err-put_slot-clause-put g c =
    let kinds : List Meaning = kinds_of (λ k. (goal.UnitKind-dyn g k).meaning k.1) c.args.kinds.now in
    let low : first_slot c.args.unit.now c.args.hop.now ≤ c.loop-slot.slot = let a = c.loop-slot.auto.slot in let v = c.first_slot-slot.ensures.value in omega arith in
    let high : c.loop-slot.slot < suc (last_slot c.args.unit.now c.args.size c.args.hop.now) = let a = c.loop-slot-test.true in let v = c.end_slot-slot-end.ensures.value in omega arith in
    let failed : is_err c.from_residual.result ≡ true = search rules in
    let was : is_err c.put_slot.result ≡ true = search rules in
    let rest = rest_of_hop c.args.unit.now c.args.size c.args.rights c.args.hop.now c.loop-slot.slot low high in
    put_stopped kinds (so_far c.args.unit.now c.args.rights c.args.hop.now c.loop-slot.slot) _ rest.0 _ (is_err c.put_slot.result) (is_err c.from_residual.result) _ _ _ _ _ _ rest.1 failed was c.loop-slot.invariant.put (subst (λ h. ArePut kinds (put_at c.args.hop.now.unit c.loop-slot.slot h ∷ []) (is_err c.put_slot.result) (g.D.Tables.log c.loop-slot.device) (g.D.Tables.log c.put_slot.new.device) c.loop-slot.tables c.put_slot.new.tables) c.slot_record-holds.ensures c.put_slot.ensures.put)

pub loop-slot-preserved : goal.loop-slot-preserved
loop-slot-preserved g c =
    let kinds : List Meaning = kinds_of (λ k. (goal.UnitKind-dyn g k).meaning k.1) c.args.kinds.now in
    let low : first_slot c.args.unit.now c.args.hop.now ≤ c.loop-slot.slot = let a = c.loop-slot.auto.slot in let v = c.first_slot-slot.ensures.value in omega arith in
    let high : c.loop-slot.slot < suc (last_slot c.args.unit.now c.args.size c.args.hop.now) = let a = c.loop-slot-test.true in let v = c.end_slot-slot-end.ensures.value in omega arith in
    let was : is_err c.put_slot.result ≡ false = search rules in
    record {
      put = put_next kinds (so_far c.args.unit.now c.args.rights c.args.hop.now c.loop-slot.slot) _ _ (is_err c.put_slot.result) _ _ _ _ _ _ (so_far_more c.args.unit.now c.args.rights c.args.hop.now c.loop-slot.slot low) was c.loop-slot.invariant.put (subst (λ h. ArePut kinds (put_at c.args.hop.now.unit c.loop-slot.slot h ∷ []) (is_err c.put_slot.result) (g.D.Tables.log c.loop-slot.device) (g.D.Tables.log c.put_slot.new.device) c.loop-slot.tables c.put_slot.new.tables) c.slot_record-holds.ensures c.put_slot.ensures.put);
      on_device = c.put_slot.ensures.on_device;
      counted = counted_then _ _ _ _ c.loop-slot.invariant.counted (subst (IsCounted (g.D.Tables.faults c.loop-slot.device) (g.D.Tables.faults c.put_slot.new.device)) was c.put_slot.ensures.counted);
    }

pub returns-clause-put : goal.returns-clause-put
returns-clause-put g c =
    let kinds : List Meaning = kinds_of (λ k. (goal.UnitKind-dyn g k).meaning k.1) c.args.kinds.now in
    put_end kinds _ _ _ _ _ _ (so_far_all c.args.unit.now c.args.size c.args.rights c.args.hop.now c.loop-slot.slot (behind_last c.args.unit.now c.args.size c.args.hop.now c.first_slot-slot.result c.end_slot-slot-end.result c.loop-slot.slot c.requires.there c.first_slot-slot.ensures.value c.end_slot-slot-end.ensures.value c.loop-slot.auto.slot-end c.loop-slot-test.false)) c.loop-slot.invariant.put

pub loop-slot-init : goal.loop-slot-init
loop-slot-init g c =
    let kinds : List Meaning = kinds_of (λ k. (goal.UnitKind-dyn g k).meaning k.1) c.args.kinds.now in
    record {
      put = put_begin kinds _ (g.D.Tables.log c.args.device.now) c.args.tables.now (so_far_none c.args.unit.now c.args.rights c.args.hop.now c.first_slot-slot.result c.first_slot-slot.ensures.value);
      on_device = c.requires.on_device;
      counted = counted_none (g.D.Tables.faults c.args.device.now);
    }
