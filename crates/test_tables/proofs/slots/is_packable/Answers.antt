-- The unit of the net that was looked at is that of the set.
use Rattle.std.proofs.Common.{◌≡◌, ◌∙◌, Some, ap, sym, subst}
use Rattle.std.specs.Option.{option_copied}
use Rattle.std.proofs.lemmas.Option.{same_Some}
use Rattle.dn_net.specs.declared.node.Unit.{Unit as UnitPart}
use Rattle.dn_kind.specs.Units.{unit_shape}
use Rattle.dn_image.proofs.Places.{unit_of_net}
use Rattle.test_tables.specs.Slots.{IsHoldable}
use Rattle.test_tables.proofs.slots.is_packable.Goals as goal

pub returns-in-Some : goal.returns-in-Some
returns-in-Some c = λ h u e.
    let same : Some c.in-Some.unit.now ≡ Some u = sym (unit_of_net c.args.set.now c.args.net.now c.args.node (option_copied c.unit.result) c.requires.units c.unit.ensures ∙ ap option_copied c.in-Some.is) ∙ e in
    subst (λ (p : UnitPart). IsHoldable (unit_shape p) c.args.wanted) (same_Some c.in-Some.unit.now u same) (c.can_hold.ensures h)
