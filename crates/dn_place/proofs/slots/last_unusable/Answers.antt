use Rattle.std.proofs.Common.{◌≡◌, ◌∙◌, ◌+◌, ◌-◌, ℕ, inl, inr, true, IsTrue, ap, subst, sym, arith}
use Rattle.std.proofs.lemmas.Bool.{cases_lt}
use Rattle.dn_place.specs.Searches.{sought}
use Rattle.dn_place.specs.Slots.{is_usable_slot, slot_of}
use Rattle.dn_place.proofs.Usable.{free_usable}
use Rattle.dn_place.proofs.slots.last_unusable.Goals as goal

pub returns-clause-none : goal.returns-clause-none
returns-clause-none g c = λ slot a b. elim (cases_lt slot c.args.free) [
  | inl l ↦ free_usable _ _ _ (c.requires.free slot a l)
  | inr l ↦ c.slots.invariant.usable slot a (omega (arith, c.slots-test.false, c.max-from.ensures, a, l)) b
]

pub slots-preserved : goal.slots-preserved
slots-preserved g c =
    let slots = (sought (λ k. (goal.UnitKind-dyn g k).meaning k.1) c.args.search).slots in
    let port = c.args.port in
    let first = c.args.first in
    let end : ℕ = c.slots.end - 1 in
    let is : is_usable_slot port (c.args.page + (end - first)) (slot_of slots c.args.unit end) ≡ true = sym (c.is_usable_slot.ensures ∙ ap (λ n. is_usable_slot port (c.args.page + n) c.slot_in.result) c.from.ensures ∙ ap (λ z. is_usable_slot port (c.args.page + (end - first)) z) c.slot_in.ensures) ∙ c.if-not-is_usable_slot.false in
    record {
      most = omega (arith, c.slots.invariant.most);
      usable = λ k a b m. elim (cases_lt end k) [
        | inl l ↦ c.slots.invariant.usable k a (omega (arith, l)) m
        | inr l ↦ subst (λ n. IsTrue (is_usable_slot port (c.args.page + (n - first)) (slot_of slots c.args.unit n))) (omega (arith, b, l)) is
      ];
    }
