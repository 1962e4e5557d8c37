use Rattle.std.proofs.Common.{◌∙◌, sym, ap}
use Rattle.dn_kind.specs.Tables.{slot_words}
use Rattle.dn_tables.specs.Set.{width_of_table, words_of_table}
use Rattle.dn_tables.proofs.Kept.{IsSlot, slot_in_set}
use Rattle.dn_tables.proofs.set.TableSet.slot_words.Goals as goal

pub slot_words-requires : goal.slot_words-requires
slot_words-requires c =
    let s : IsSlot c.args.self.now c.args.unit c.args.slot c.index-table.result.now = slot_in_set c.self.inside.nodes.items c.args.self.now c.from.result c.args.unit c.args.slot c.index-table.result.now c.self.view_is c.from.ensures c.self.invariant c.requires c.index-table.ensures in
    s.has

pub returns : goal.returns
returns c =
    let s : IsSlot c.args.self.now c.args.unit c.args.slot c.index-table.result.now = slot_in_set c.self.inside.nodes.items c.args.self.now c.from.result c.args.unit c.args.slot c.index-table.result.now c.self.view_is c.from.ensures c.self.invariant c.requires c.index-table.ensures in
    c.slot_words.ensures.words ∙ sym (ap (λ o. slot_words (width_of_table o) (words_of_table o) c.args.slot) s.at)
