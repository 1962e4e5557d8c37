use Rattle.std.proofs.Common.{◌∙◌, inl, inr, IsTrue, ap, subst, sym, arith}
use Rattle.std.proofs.lemmas.Bool.{cases_lt}
use Rattle.dn_place.specs.Searches.{sought}
use Rattle.dn_place.specs.Slots.{is_free_slot, slot_of}
use Rattle.dn_place.proofs.slots.are_free.Goals as goal

pub loop-slot-preserved : goal.loop-slot-preserved
loop-slot-preserved g c = λ k a b.
    let slots = (sought (λ k. (goal.UnitKind-dyn g k).meaning k.1) c.args.search).slots in
    elim (cases_lt k c.loop-slot.slot) [
      | inl l ↦ c.loop-slot.invariant k a l
      | inr l ↦ subst (λ n. IsTrue (is_free_slot (slot_of slots c.args.unit n))) (omega (arith, b, l)) (sym (c.is_free_slot.ensures ∙ ap is_free_slot c.slot_in.ensures) ∙ c.if-not-is_free_slot.false)
    ]
