use Rattle.std.proofs.Common.{◌∙◌, ap, Some}
use Rattle.std.specs.Option.{option_copied}
use Rattle.dn_net.proofs.Steps.{unit_is}
use Rattle.dn_tables.proofs.Units.{unit_by_units}
use Rattle.dn_book.proofs.uses.add_hop_uses.Goals as goal

pub add_slot_uses-requires-clause-is_unit : goal.add_slot_uses-requires-clause-is_unit
add_slot_uses-requires-clause-is_unit c =
    unit_by_units c.args.net.now c.args.tables.now c.requires.units c.args.hop.now.unit
    ∙ unit_is c.args.net.now c.args.hop.now.unit (Some c.in-Some.unit.now) (c.unit.ensures ∙ ap (λ o. Some (option_copied o)) c.in-Some.is)
