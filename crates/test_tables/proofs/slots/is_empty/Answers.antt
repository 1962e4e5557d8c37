-- The words that were looked at are those of a slot, as many as a record has.
use Rattle.std.proofs.Common.{◌∙◌, ◌==◌, ap, sym, List, ℕ}
use Rattle.std.specs.List.{list_all}
use Rattle.test_tables.proofs.Held.{zero_slot}
use Rattle.test_tables.proofs.slots.is_empty.Goals as goal

pub returns : goal.returns
returns c = λ h.
    zero_slot c.args.set.now c.args.at.unit c.args.at.slot c.facts.ensures c.requires
    (ap (λ (ws : List ℕ). list_all (λ w. w == 0) ws) (sym (c.as_slice.ensures ∙ c.slot_words.ensures)) ∙ sym c.are_zero.ensures ∙ h)
