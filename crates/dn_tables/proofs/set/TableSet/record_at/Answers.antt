use Rattle.std.proofs.Common.{◌∙◌, sym, List}
use Rattle.dn_base.proofs.Lists.{list_all-at}
use Rattle.dn_kind.specs.Kind.{Meaning}
use Rattle.dn_kind.specs.Kinded.{kinds_of}
use Rattle.dn_tables.specs.Set.{fits_by}
use Rattle.dn_tables.proofs.Kept.{IsSlot, slot_in_set}
use Rattle.dn_tables.proofs.Slots.{kept_by}
use Rattle.dn_tables.proofs.set.TableSet.record_at.Goals as goal

pub record_at-requires-clause-fits : goal.record_at-requires-clause-fits
record_at-requires-clause-fits g c =
    let s : IsSlot c.args.self.now c.args.unit c.args.slot c.index-table.result.now = slot_in_set c.self.inside.nodes.items c.args.self.now c.from.result c.args.unit c.args.slot c.index-table.result.now c.self.view_is c.from.ensures c.self.invariant c.requires.there c.index-table.ensures in
    let kinds : List Meaning = kinds_of (λ k. (goal.UnitKind-dyn g k).meaning k.1) c.args.kinds.now in
    list_all-at (λ t. fits_by kinds t.width t.unit) c.args.self.now c.args.unit c.index-table.result.now c.requires.fits s.at

pub record_at-requires-clause-slot : goal.record_at-requires-clause-slot
record_at-requires-clause-slot g c =
    let s : IsSlot c.args.self.now c.args.unit c.args.slot c.index-table.result.now = slot_in_set c.self.inside.nodes.items c.args.self.now c.from.result c.args.unit c.args.slot c.index-table.result.now c.self.view_is c.from.ensures c.self.invariant c.requires.there c.index-table.ensures in
    s.has

pub returns : goal.returns
returns g c =
    let s : IsSlot c.args.self.now c.args.unit c.args.slot c.index-table.result.now = slot_in_set c.self.inside.nodes.items c.args.self.now c.from.result c.args.unit c.args.slot c.index-table.result.now c.self.view_is c.from.ensures c.self.invariant c.requires.there c.index-table.ensures in
    let kinds : List Meaning = kinds_of (λ k. (goal.UnitKind-dyn g k).meaning k.1) c.args.kinds.now in
    c.record_at.ensures ∙ sym (kept_by kinds c.args.self.now c.args.unit c.args.slot c.index-table.result.now s.at)
