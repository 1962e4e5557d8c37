use Rattle.std.proofs.Common.{◌∙◌, ◌<◌, ap, sym, get_or, length, arith}
use Rattle.std.proofs.lemmas.List.{get_or_default}
use Rattle.dn_tables.specs.Set.{no_use, uses_of_table}
use Rattle.dn_tables.proofs.Kept.{slot_in_set, IsSlot}
use Rattle.dn_tables.proofs.set.TableSet.use_at.Goals as goal

pub get-requires : goal.get-requires
get-requires c =
    let s : IsSlot c.args.self.now c.args.unit c.args.slot c.index-table.result.now = slot_in_set c.self.inside.nodes.items c.args.self.now c.from.result c.args.unit c.args.slot c.index-table.result.now c.self.view_is c.from.ensures c.self.invariant c.requires c.index-table.ensures in
    let l = s.within in
    let m = s.sized.uses in
    omega arith

pub returns-clause-value : goal.returns-clause-value
returns-clause-value c =
    let s : IsSlot c.args.self.now c.args.unit c.args.slot c.index-table.result.now = slot_in_set c.self.inside.nodes.items c.args.self.now c.from.result c.args.unit c.args.slot c.index-table.result.now c.self.view_is c.from.ensures c.self.invariant c.requires c.index-table.ensures in
    let l = s.within in
    let m = s.sized.uses in
    let within : c.args.slot < length c.index-table.result.now.uses = omega arith in
    c.get.ensures.value
    ∙ get_or_default c.index-table.result.now.uses c.args.slot c.get.result no_use within
    ∙ ap (λ o. get_or (uses_of_table o) c.args.slot no_use) (sym s.at)
