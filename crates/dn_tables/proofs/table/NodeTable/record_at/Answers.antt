use Rattle.std.proofs.Common.{◌∙◌, ap, sym, List, Some, Option}
use Rattle.dn_net.specs.declared.node.Unit.{Unit as UnitPart}
use Rattle.dn_kind.specs.Kind.{Meaning}
use Rattle.dn_kind.specs.Kinded.{kinds_of}
use Rattle.dn_kind.specs.Tables.{record_of_unit}
use Rattle.dn_tables.proofs.Gates.{none_by_gate}
use Rattle.dn_tables.proofs.Kept.{placed_in, unit_of_slot}
use Rattle.dn_tables.proofs.Slots.{all_of_map, width_of_kind}
use Rattle.dn_tables.proofs.table.NodeTable.record_at.Goals as goal

pub returns-then-gate-eq0 : goal.returns-then-gate-eq0
returns-then-gate-eq0 g c =
    let kinds : List Meaning = kinds_of (λ k. (goal.UnitKind-dyn g k).meaning k.1) c.args.kinds.now in
    let t = c.args.self.now in
    let u = unit_of_slot t.unit c.args.slot c.requires.slot.there in
    let none = none_by_gate kinds u.0 t.width c.args.slot t.words (all_of_map _ c.args.kinds.now.list.items c.requires.kinds.lawful) (width_of_kind kinds t.width t.unit u.0 u.1 c.requires.fits) (placed_in t c.args.slot c.requires.slot).room (sym c.gate.ensures ∙ c.if-gate-eq0.true) in
    sym (ap (λ (o : Option UnitPart). record_of_unit kinds o (Some t.words) c.args.slot) u.1 ∙ none)
